-- Each answer is one law: `stands` or `lacks`.
use Rattle.room.proofs.PlaceLaws.{stands, lacks}
use Rattle.room.proofs.SearchLaws.{key-stands}
use Rattle.slots.proofs.SlotLaws.{length-table, not-held}
use Rattle.slots.specs.Slots.{table_of}
use Rattle.adjacency.specs.Place.{is_held}
use Rattle.adjacency.specs.declared.place.Slot.TheVariants.{Free}
use lib.ListN.{get_or}
use Prim.Native.Nat.{ℕ}
use mathlib.Core.Bool.{true≢false}
use mathlib.Core.Path.{sym, ap, ◌∙◌}
use native.Mathlib.Omega.{arith}
use Rattle.room.proofs.place.place_of.Goals as goal

pub returns-then-at-ge-PLACES : goal.returns-then-at-ge-PLACES
returns-then-at-ge-PLACES c =
    let s = c.args in
    rw c.first_free-at.ensures
    (lacks s.key (table_of s.words.now) (length-table s.words.now) (omega (arith, c.find_key-at.ensures, c.if-at-ge-PLACES.true)))

pub returns-in_default : goal.returns-in_default
returns-in_default c =
    let s = c.args in
    let t = table_of s.words.now in
    let f = c.find_key-at.ensures in
    let e = c.load.ensures ∙ ap (λ (i : ℕ). get_or t i Free) f in
    let h = key-stands s.key t (rw length-table (omega (arith, f, c.if-at-ge-PLACES.false))) in
    absurd (true≢false (sym (ap is_held e ∙ h) ∙ not-held c.load.result c.in_default.not-Held))

pub returns : goal.returns
returns c =
    let s = c.args in
    let t = table_of s.words.now in
    let f = c.find_key-at.ensures in
    let e = ap (λ (i : ℕ). get_or t i Free) (sym f) ∙ sym c.load.ensures ∙ c.in-Held.is in
    rw f (stands s.key t (length-table s.words.now) _ (omega (arith, f, c.if-at-ge-PLACES.false)) e)
