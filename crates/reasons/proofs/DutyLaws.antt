-- Who has the CSNP duty: the router that is named has it before us, with the greatest pair and of that pair the lowest System ID; and where we have it,
-- none outranks us. For WhyLaws, and for the code's proofs.
use Prim.Native.Nat.{ℕ, zero, suc, ◌<◌}
use native.Mathlib.Omega.{arith}
use mathlib.Core.Path.{◌≡◌, refl, sym, ◌∙◌}
use mathlib.Core.Bool.{Bool, true, false, not, cond, ◌&&◌, true≢false}
use mathlib.Core.List.{List, [], ◌∷◌}
use lib.ListN.{get_or}
use lib.Dec.{eqb, ltb}
use borrow.Author.Tests.{ltb-true, eqb-true, lt-ltb, eq-eqb}
use Rattle.basics.specs.Lists.{some}
use Rattle.basics.proofs.BoolLaws.{by-test, both, and_left, and_right, and-false, neither, or-true}
use Rattle.adjacency.specs.Duty.{greater, marks_restart, rival, outranks}
use Rattle.adjacency.specs.declared.duty.Rank.{Rank}
use Rattle.adjacency.specs.declared.place.Slot.{Slot}
use Rattle.adjacency.specs.declared.place.Slot.TheVariants.{Free, Held, Closed}
use Rattle.adjacency.specs.declared.record.Record.{Record}
use Rattle.adjacency.specs.declared.record.State.{State}
use Rattle.adjacency.specs.declared.record.State.TheVariants.{Init, Up}
use Rattle.model.specs.Answers.{last_of}
use Rattle.room.specs.Table.{any_outranks}
use Rattle.reasons.specs.Duty.{priority_in, theirs, pair_at, ahead_of, duty_with, duty_at, duty_from, duty_in}
use Rattle.reasons.specs.Holds.{Greatest}
use Rattle.reasons.specs.declared.why.Router.{Router}
use Rattle.std.specs.Prelude.{Option, Some, None}

-- ---- the order of pairs

-- the pair (a, b) is less than (p, m)
data Less (a b p m : ℕ) : Type 0 where
  by-priority : a < p → Less a b p m
  by-mac : a ≡ p → b < m → Less a b p m

less-trans : {a b p m q n : ℕ} → Less a b p m → Less p m q n → Less a b q n
less-trans (by-priority h) (by-priority k) = by-priority (omega arith)
less-trans (by-priority h) (by-mac e k) = by-priority (omega arith)
less-trans (by-mac d h) (by-priority k) = by-priority (omega arith)
less-trans (by-mac d h) (by-mac e k) = by-mac (d ∙ e) (omega arith)

greater-less : (own : Rank) (p m : ℕ) → greater own p m ≡ true → Less own.priority own.mac p m
greater-less own p m e =
    by-test (ltb own.priority p) (λ a. by-priority (ltb-true own.priority p a))
    (λ a.
    let q = both (eqb own.priority p) (ltb own.mac m) (rw a at e) in
    by-mac (eqb-true own.priority p q.0) (ltb-true own.mac m q.1))

less-greater : (own : Rank) (p m : ℕ) → Less own.priority own.mac p m → greater own p m ≡ true
less-greater own p m (by-priority h) = rw (lt-ltb own.priority p h) refl
less-greater own p m (by-mac e h) = rw (eq-eqb own.priority p e, lt-ltb own.mac m h) (or-true (ltb own.priority p))

-- ---- a router that may have the duty, whatever its pair is

abbrev able : ℕ → ℕ → State → Bool
able level at (Init d) = false
able level at (Up d m) = eqb at level && (d.last.tlv && not (marks_restart m))

abbrev able_at : ℕ → Record → Bool
able_at level r = able level r.key.level r.state

regroup : (a b c d : Bool) → (a && (b && (c && d))) ≡ ((a && (b && c)) && d)
regroup true true c d = refl
regroup true false c d = refl
regroup false b c d = refl

state-outranks : (own : Rank) (level mac : ℕ) (s : State)
    → (eqb level own.level && rival own mac s) ≡ (able own.level level s && greater own (last_of s).priority mac)
state-outranks own level mac (Init d) = and-false (eqb level own.level)
state-outranks own level mac (Up d m) =
    regroup (eqb level own.level) d.last.tlv (not (marks_restart m)) (greater own d.last.priority mac)

outranks-is : (own : Rank) (r : Record) → outranks own r ≡ (able_at own.level r && greater own (priority_in r) r.key.mac)
unfolding outranks
outranks-is own r = state-outranks own r.key.level r.key.mac r.state

outranks-able : (own : Rank) (r : Record) → outranks own r ≡ true → able_at own.level r ≡ true
outranks-able own r e = and_left (able_at own.level r) _ (sym (outranks-is own r) ∙ e)

outranks-less : (own : Rank) (r : Record) → outranks own r ≡ true → Less own.priority own.mac (priority_in r) r.key.mac
outranks-less own r e = greater-less own (priority_in r) r.key.mac (and_right (able_at own.level r) _ (sym (outranks-is own r) ∙ e))

outranks-of : (own : Rank) (r : Record) → able_at own.level r ≡ true → Less own.priority own.mac (priority_in r) r.key.mac
    → outranks own r ≡ true
outranks-of own r a h = outranks-is own r ∙ rw a (less-greater own (priority_in r) r.key.mac h)

-- ---- a record that is looked at takes the duty

abbrev beats : Rank → Option Router → Record → Bool
beats own None r = outranks own r
beats own (Some d) r = ahead_of own d.system d.priority d.mac r

with-is : (own : Rank) (d : Option Router) (r : Record) → duty_with own d r ≡ cond (beats own d r) (Some (theirs r)) d
unfolding duty_with
with-is own None r = refl
with-is own (Some d) r = refl

-- by its pair, or of one pair by its System ID
data Before (own : Rank) (system priority mac : ℕ) (r : Record) : Type 0 where
  by-pair : able_at own.level r ≡ true → Less priority mac (priority_in r) r.key.mac → Before own system priority mac r
  by-system : outranks own r ≡ true → priority_in r ≡ priority → r.key.mac ≡ mac → r.key.system < system → Before own system priority mac r

beats-before : (own : Rank) (system priority mac : ℕ) (r : Record) → beats own (Some (record { system = system; priority = priority; mac = mac })) r ≡ true
    → Before own system priority mac r
beats-before own system priority mac r e =
    let up = pair_at own priority mac in
    by-test (outranks up r) (λ a. by-pair (outranks-able up r a) (outranks-less up r a))
    (λ a.
    let o = both (outranks own r) _ (rw a at e) in
    let p = both (eqb (priority_in r) priority) _ o.1 in
    let m = both (eqb r.key.mac mac) _ p.1 in
    by-system o.0 (eqb-true _ _ p.0) (eqb-true _ _ m.0) (ltb-true _ _ m.1))

before-beats : (own : Rank) (system priority mac : ℕ) (r : Record) → Before own system priority mac r
    → beats own (Some (record { system = system; priority = priority; mac = mac })) r ≡ true
before-beats own system priority mac r (by-pair a h) = rw (outranks-of (pair_at own priority mac) r a h) refl
before-beats own system priority mac r (by-system o p m h) =
    rw (o, eq-eqb (priority_in r) priority p, eq-eqb r.key.mac mac m, lt-ltb r.key.system system h) (or-true (outranks (pair_at own priority mac) r))

-- who takes it from one that took it takes it from whoever had it
before-after : (own : Rank) (system priority mac : ℕ) (r q : Record) → Before own system priority mac r
    → Before own r.key.system (priority_in r) r.key.mac q → Before own system priority mac q
before-after own system priority mac r q (by-pair a h) (by-pair b k) = by-pair b (less-trans h k)
before-after own system priority mac r q (by-pair a h) (by-system o p m k) = by-pair (outranks-able own q o) (rw (p, m) h)
before-after own system priority mac r q (by-system o p m h) (by-pair b k) = by-pair b (rw (← p, ← m) k)
before-after own system priority mac r q (by-system o p m h) (by-system u v w k) = by-system u (v ∙ p) (w ∙ m) (omega arith)

-- the router that has it outranks us
abbrev Above : Rank → Option Router → Type 0
Above own None = Unit {0}
Above own (Some d) = Less own.priority own.mac d.priority d.mac

beats-outranks : (own : Rank) (d : Option Router) (r : Record) → Above own d → beats own d r ≡ true → outranks own r ≡ true
beats-outranks own None r a e = e
beats-outranks own (Some d) r a e = go (beats-before own d.system d.priority d.mac r e)
  where
    go : Before own d.system d.priority d.mac r → outranks own r ≡ true
    go (by-pair b h) = outranks-of own r b (less-trans a h)
    go (by-system o p m h) = o

beats-after : (own : Rank) (d : Option Router) (r q : Record) → beats own d r ≡ true → beats own (Some (theirs r)) q ≡ true → beats own d q ≡ true
beats-after own None r q e f = beats-outranks own (Some (theirs r)) q (outranks-less own r e) f
beats-after own (Some d) r q e f =
    before-beats own d.system d.priority d.mac q
    (before-after own d.system d.priority d.mac r q (beats-before own d.system d.priority d.mac r e)
    (beats-before own r.key.system (priority_in r) r.key.mac q f))

-- no router comes before itself
less-not : {a b : ℕ} → Less a b a b → ⊥
less-not (by-priority h) = omega arith
less-not (by-mac e h) = omega arith

before-not : (own : Rank) (r : Record) → Before own r.key.system (priority_in r) r.key.mac r → ⊥
before-not own r (by-pair a h) = less-not h
before-not own r (by-system o p m h) = omega arith

beats-self : (own : Rank) (r : Record) → beats own (Some (theirs r)) r ≡ false
beats-self own r =
    by-test (beats own (Some (theirs r)) r)
    (λ e. absurd (before-not own r (beats-before own r.key.system (priority_in r) r.key.mac r e))) (λ e. e)

-- ---- a whole room

-- once it is looked at, a record takes the duty no more
with-self : (own : Rank) (d : Option Router) (r : Record) → beats own (duty_with own d r) r ≡ false
with-self own d r =
    rw (with-is own d r) (by-test (beats own d r) (λ e. rw e (beats-self own r)) (λ e. rw e e))

with-keeps : (own : Rank) (d : Option Router) (r q : Record) → beats own d q ≡ false → beats own (duty_with own d r) q ≡ false
with-keeps own d r q n =
    rw (with-is own d r)
    (by-test (beats own d r)
    (λ e. rw e (by-test (beats own (Some (theirs r)) q) (λ f. absurd (true≢false (sym (beats-after own d r q e f) ∙ n))) (λ f. f))) (λ e. rw e n))

from-keeps : (own : Rank) (d : Option Router) (t : List Slot) (q : Record) → beats own d q ≡ false → beats own (duty_from own d t) q ≡ false
unfolding duty_from duty_at
from-keeps own d [] q e = e
from-keeps own d (Free ∷ t) q e = from-keeps own d t q e
from-keeps own d (Held r ∷ t) q e = from-keeps own (duty_with own d r) t q (with-keeps own d r q e)
from-keeps own d (Closed ∷ t) q e = from-keeps own d t q e

from-none : (own : Rank) (d : Option Router) (t : List Slot) (i : ℕ) (r : Record) → get_or t i Free ≡ Held r → beats own (duty_from own d t) r ≡ false
unfolding duty_from duty_at
from-none own d [] i r e = cc
from-none own d (Free ∷ t) zero r e = cc
from-none own d (Held q ∷ t) zero r e = let z : q ≡ r = cc in from-keeps own (duty_with own d q) t r (rw z (with-self own d r))
from-none own d (Closed ∷ t) zero r e = cc
from-none own d (s ∷ t) (suc i) r e = from-none own (duty_at own d s) t i r e

-- the one that is named stands in the room, or was named before
record Named (own : Rank) (t : List Slot) (d : Option Router) : Type 0 where
  place : ℕ
  entry : Record
  stands : get_or t place Free ≡ Held entry
  pair : Some (theirs entry) ≡ d
  duty : outranks own entry ≡ true

data Source (own : Rank) (old : Option Router) (t : List Slot) (d : Option Router) : Type 0 where
  kept : old ≡ d → Source own old t d
  named : Named own t d → Source own old t d

source-past : {own : Rank} {old : Option Router} {s : Slot} {t : List Slot} {d : Option Router} → Source own old t d → Source own old (s ∷ t) d
source-past (kept e) = kept e
source-past (named x) =
    named (record { place = suc x.place; entry = x.entry; stands = x.stands; pair = x.pair; duty = x.duty })

source-here : {own : Rank} {old : Option Router} {r : Record} {t : List Slot} {d : Option Router} → outranks own r ≡ true → Source own (Some (theirs r)) t d
    → Source own old (Held r ∷ t) d
source-here {r} o (kept e) = named (record { place = 0; entry = r; stands = refl; pair = e; duty = o })
source-here o (named x) =
    named (record { place = suc x.place; entry = x.entry; stands = x.stands; pair = x.pair; duty = x.duty })

from-source : (own : Rank) (old : Option Router) (t : List Slot) → Above own old → Source own old t (duty_from own old t)
unfolding duty_from duty_at
from-source own old [] a = kept refl
from-source own old (Free ∷ t) a = source-past (from-source own old t a)
from-source own old (Held r ∷ t) a =
    rw (with-is own old r)
    (by-test (beats own old r)
    (λ e.
    let o = beats-outranks own old r a e in
    rw e (source-here o (from-source own (Some (theirs r)) t (outranks-less own r o))))
    (λ e. rw e (source-past (from-source own old t a))))
from-source own old (Closed ∷ t) a = source-past (from-source own old t a)

-- ---- the laws

pub duty-greatest : (own : Rank) (t : List Slot) (system priority mac : ℕ) → duty_in own t ≡ Some (record { system = system; priority = priority; mac = mac })
    → Greatest own t system priority mac
duty-greatest own t system priority mac e = go (rw e at (from-source own None t tt))
  where
    none : (i : ℕ) (r : Record) → get_or t i Free ≡ Held r → beats own (Some (record { system = system; priority = priority; mac = mac })) r ≡ false
    none i r s = rw e at (from-none own None t i r s)

    go : Source own None t (Some (record { system = system; priority = priority; mac = mac })) → Greatest own t system priority mac
    go (kept x) = absurd (let z : ◌≡◌ {A = ℕ} 0 1 = cc in omega arith)
    go (named x) =
        record {
          place = x.place;
          entry = x.entry;
          stands = x.stands;
          pair = let q = x.pair in cc;
          duty = x.duty;
          most = λ i r s. (neither (outranks (pair_at own priority mac) r) _ (none i r s)).0;
          lowest = λ i r s o. rw o at (neither (outranks (pair_at own priority mac) r) _ (none i r s)).1;
        }

none-outranks : (own : Rank) (t : List Slot) → ((i : ℕ) (r : Record) → get_or t i Free ≡ Held r → outranks own r ≡ false)
    → any_outranks own t ≡ false
unfolding some
none-outranks own [] h = refl
none-outranks own (Free ∷ t) h = none-outranks own t (λ i. h (suc i))
none-outranks own (Held r ∷ t) h = rw (h 0 r refl) (none-outranks own t (λ i. h (suc i)))
none-outranks own (Closed ∷ t) h = none-outranks own t (λ i. h (suc i))

pub duty-ours : (own : Rank) (t : List Slot) → duty_in own t ≡ None → any_outranks own t ≡ false
duty-ours own t e = none-outranks own t (λ i r s. rw e at (from-none own None t i r s))
