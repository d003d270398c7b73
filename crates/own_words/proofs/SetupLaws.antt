-- The laws of setup: a circuit put, all of them, and what the whole comes to.
use Prim.Native.Nat.{ℕ, zero, suc, ◌+◌, ◌-◌, ◌<◌, ◌≤◌}
use native.Mathlib.Omega.{arith}
use mathlib.Core.Path.{◌≡◌, refl, ap, sym, ◌∙◌}
use mathlib.Core.Logic.{◌≢◌}
use mathlib.Core.Bool.{true, false}
use mathlib.Core.List.{List, [], ◌∷◌, ◌++◌, map}
use lib.ListN.{length, set, get_or, take, drop}
use borrow.Author.Tests.{le-ltb}
use borrow.Rule.Slice.PartMut.{put_mid}
use Rattle.basics.proofs.PartLaws.{part_same}
use Rattle.basics.specs.Lists.{part}
use Rattle.timers.specs.Hellos.{Hellos, hellos_of}
use Rattle.timers.specs.declared.hellos.HelloOrders.{HelloOrders}
use Rattle.timers.specs.Events.{start_hellos}
use Rattle.control.specs.Words.{control_words, circuit_at, circuits_from}
use Rattle.basics.specs.declared.refusal.Refusal.TheVariants.{BadSetting}
use Rattle.slots.specs.Slots.{table_of, room_words}
use Rattle.room.specs.Table.{empty_room}
use Rattle.basics.specs.Mask.{circuits}
use Rattle.settings.specs.Settings.{settings_ok}
use Rattle.settings.specs.declared.circuit.Circuit.{Circuit}
use Rattle.settings.specs.declared.setup.Settings.{Settings}
use Rattle.control.specs.Common.{start_of, setup_common}
use Rattle.control.specs.Setup.{SetsControl, settings_on, basis_of}
use Rattle.control.specs.declared.setup.Basis.{Basis}
use Rattle.control.proofs.SetupLaws.{Stored, stored-step, stored-all}
use Rattle.model.specs.Gateway.{Gateway, Room, with_common, new_room, no_frames, new_gateway, setup}
use Rattle.own_words.specs.Words.{own_words, room_place, gateway_of}
use Rattle.own_words.specs.Setup.{Begun, PutsCircuit, HoldsCircuits, counted_basis, Begins, SetsUp}
use Rattle.own_words.proofs.CallLaws.{copy_step, gather-end}
use Rattle.own_words.proofs.WordLaws.{length-common, length-rooms, common-put, common-stays, room-put}
use Rattle.std.specs.Prelude.{Ok, Err}

-- ---- a circuit

pub puts : (ws u t : List ℕ) (i : ℕ) (s : Circuit) → length ws ≡ own_words → length u ≡ control_words → i < circuits
    → length t ≡ room_place i + room_words - room_place i → circuit_at u i ≡ s → ((j : ℕ) → j ≢ i → circuit_at u j ≡ circuit_at (part 0 control_words ws) j)
    → table_of t ≡ empty_room s.kind → PutsCircuit i s ws (put_mid (room_place i) (room_place i + room_words - room_place i) (put_mid 0 control_words ws u) t)
puts ws u t i s len lu lt l own others e =
    let ws1 = put_mid 0 control_words ws u in
    let len1 = length-common ws u len lu in
    let same : part 0 control_words (put_mid (room_place i) (room_place i + room_words - room_place i) ws1 t) ≡ u =
    common-stays ws1 t len1 i lt l ∙ part_same 0 control_words ws u (omega arith) (omega arith) lu in
    record {
      own = λ h. ap (λ (x : List ℕ). circuit_at x i) same ∙ own;
      others = λ j ne. ap (λ (x : List ℕ). circuit_at x j) same ∙ others j ne;
      rooms =
          ap (λ (g : Gateway). g.rooms) (room-put ws1 t len1 i lt l)
          ∙ (λ k. set (ap (λ (g : Gateway). g.rooms) (common-put ws u len lu) k) i (record { slots = e k }));
      kept = λ h. absurd (omega arith);
    }

pub puts_none : (ws : List ℕ) (i : ℕ) (s : Circuit) → circuits ≤ i → PutsCircuit i s ws ws
puts_none ws i s le =
    record {
      own = λ h. absurd (omega arith);
      others = λ j ne. refl;
      rooms = sym (set_past (gateway_of ws).rooms i (new_room s) (omega (arith, length-rooms ws)));
      kept = λ h. refl;
    }
  where
    set_past : (l : List Room) (i : ℕ) (v : Room) → length l ≤ i → set l i v ≡ l
    set_past [] i v h = refl
    set_past (x ∷ xs) zero v h = absurd (omega (arith, h))
    set_past (x ∷ xs) (suc i) v h = ap (λ (t : List Room). x ∷ t) (set_past xs i v (omega (arith, h)))

-- ---- all of them

-- the circuits before i are put
pub record PutUpTo (all : List Circuit) (ws : List ℕ) (i : ℕ) : Type 0 where
  pub stored : Stored (part 0 control_words ws) all i
  pub rooms : take i (gateway_of ws).rooms ++ map new_room (drop i all) ≡ map new_room all

module _ (all : List Circuit) (len : length all ≡ circuits) where
  pub put_next : (ws ws' : List ℕ) (i : ℕ) (d : Circuit) → i < circuits → PutUpTo all ws i → PutsCircuit i (get_or all i d) ws ws' → PutUpTo all ws' (i + 1)
  put_next ws ws' i d lt h p =
      record {
        stored = stored-step (part 0 control_words ws) (part 0 control_words ws') all i d (omega (arith, len)) h.stored (p.own lt) p.others;
        rooms =
            rw p.rooms
            (copy_step _ new_room (gateway_of ws).rooms all i _ (omega (arith, length-rooms ws)) (omega (arith, len)) refl ∙ h.rooms);
      }

  pub put_all : (ws : List ℕ) (i : ℕ) → circuits ≤ i → PutUpTo all ws i → HoldsCircuits all ws
  put_all ws i le h =
      record {
        stored = stored-all (part 0 control_words ws) all len (λ j lt. h.stored j (omega arith));
        rooms = gather-end new_room (gateway_of ws).rooms all i (omega (arith, length-rooms ws)) (omega (arith, len)) ∙ h.rooms;
      }

-- ---- the rest

pub counted_same : (b : Basis) → b.count ≤ circuits → b ≡ counted_basis b
counted_same b h = rw (le-ltb circuits b.count h) refl

pub begins : (ws u : List ℕ) (b : Basis) (hellos : Hellos) → length ws ≡ own_words → length u ≡ control_words
    → SetsControl (settings_on b (circuits_from (part 0 control_words ws) 0 circuits)) u hellos → Begins b ws (put_mid 0 control_words ws u) hellos
begins ws u b hellos len lu h =
    record { next = common-put ws u len lu ∙ ap (with_common (gateway_of ws)) h.common; ordered = h.hellos }

module _ (ws : List ℕ) (s : Settings) where
  pub set-up-refused : settings_ok s ≡ false → SetsUp (setup s) ws ws (Err BadSetting)
  unfolding setup
  set-up-refused e = rw e (record { answer = refl; next = refl; kept = λ x y. refl })

  pub set-up-done : (ws1 ws' : List ℕ) (hellos : HelloOrders) → settings_ok s ≡ true → HoldsCircuits s.circuits ws1
      → Begins (basis_of s) ws1 ws' (hellos_of hellos) → SetsUp (setup s) ws ws' (Ok hellos)
  unfolding setup new_gateway gateway_of
  set-up-done ws1 ws' hellos e held b =
      let on : settings_on (basis_of s) (circuits_from (part 0 control_words ws1) 0 circuits) ≡ s = ap (settings_on (basis_of s)) held.stored in
      rw e
      (record {
        answer = ap Begun (b.ordered ∙ ap (λ (x : Settings). start_hellos (start_of x)) on);
        next = b.next ∙ (λ i. record { common = setup_common (on i); rooms = held.rooms i; unfinished = no_frames });
        kept = λ x y. absurd (let z : ◌≡◌ {A = ℕ} 0 1 = cc in omega arith);
      })
