-- Keys that are the same are equal, and the level of a frame's key is the frame's. Every proof about keys cites these.
use Prim.Native.Nat.{ℕ}
use native.Mathlib.Omega.{arith}
use mathlib.Core.Path.{◌≡◌, refl, ap}
use mathlib.Core.Bool.{true}
use lib.Dec.{eqb}
use borrow.Author.Tests.{eqb-true, eq-eqb}
use Rattle.basics.proofs.BoolLaws.{and_left, and_right}
use Rattle.adjacency.specs.declared.record.Key.{Key}
use Rattle.adjacency.specs.Keys.{same_key, key_on, level_in, key_in}
use Rattle.basics.specs.declared.kind.CircuitKind.{CircuitKind}
use Rattle.basics.specs.declared.kind.CircuitKind.TheVariants.{Lan as LanCircuit, P2p as P2pCircuit}
use Rattle.hello.specs.Hello.{kind_of}
use Rattle.hello.specs.declared.read.Hello.{Hello}
use Rattle.hello.specs.declared.read.Link.{Link}
use Rattle.hello.specs.declared.read.Link.TheVariants.{Lan, P2p}

pub same_key-refl : (k : Key) → same_key k k ≡ true
unfolding same_key
same_key-refl k =
    simp (eq-eqb k.system k.system refl, eq-eqb k.mac k.mac refl, eq-eqb k.level k.level refl)

pub same_key-eq : (a b : Key) → same_key a b ≡ true → a ≡ b
unfolding same_key
same_key-eq a b e =
    let s = eqb-true a.system b.system (and_left (eqb a.system b.system) _ e) in
    let r = and_right (eqb a.system b.system) _ e in
    let m = eqb-true a.mac b.mac (and_left (eqb a.mac b.mac) _ r) in
    let l = eqb-true a.level b.level (and_right (eqb a.mac b.mac) _ r) in
    λ i. record { level = l i; system = s i; mac = m i }

pub same_key-mac : (a b : Key) → same_key a b ≡ true → a.mac ≡ b.mac
same_key-mac a b e = ap (λ (k : Key). k.mac) (same_key-eq a b e)

-- of a frame whose link is of the circuit's kind
level-on : (kind : CircuitKind) (l : Link) (system mac : ℕ) → kind_of l ≡ kind
    → (key_on kind (record { level = level_in l; system = system; mac = mac })).level ≡ level_in l
unfolding key_on
level-on LanCircuit l system mac e = refl
level-on P2pCircuit (Lan level priority listed) system mac e = absurd (let z : ◌≡◌ {A = ℕ} 0 1 = cc in omega arith)
level-on P2pCircuit (P2p t) system mac e = refl

pub key-level : (kind : CircuitKind) (mac : ℕ) (h : Hello) → kind_of h.link ≡ kind → (key_in kind mac h).level ≡ level_in h.link
key-level kind mac h e = level-on kind h.link h.system mac e
