-- The search for who has the duty, place by place: what is known so far, and the definition on what is left.
use Prim.Native.Nat.{ℕ, ◌+◌, ◌<◌, ◌≤◌}
use native.Mathlib.Numerals.{add-one}
use mathlib.Core.Path.{◌≡◌, refl}
use mathlib.Core.Bool.{false, true≢false}
use mathlib.Core.List.{List}
use lib.ListN.{length, get_or, drop, drop_of_length-le}
use lib.Seq.{drop-cons}
use Rattle.adjacency.specs.Place.{is_held}
use Rattle.adjacency.specs.declared.duty.Rank.{Rank}
use Rattle.adjacency.specs.declared.place.Slot.{Slot}
use Rattle.adjacency.specs.declared.place.Slot.TheVariants.{Free, Held, Closed}
use Rattle.adjacency.specs.declared.record.Record.{Record}
use Rattle.reasons.specs.Duty.{duty_with, duty_at, duty_from}
use Rattle.reasons.specs.declared.why.Router.{Router}
use Rattle.std.specs.Prelude.{Option}

module _ (own : Rank) (d : Option Router) where
  pub duty-held : (s : Slot) (r : Record) → s ≡ Held r → duty_with own d r ≡ duty_at own d s
  unfolding duty_at
  duty-held s r e = rw e refl

  pub duty-not-held : (s : Slot) → is_held s ≡ false → d ≡ duty_at own d s
  unfolding duty_at
  duty-not-held Free e = refl
  duty-not-held (Held r) e = absurd (true≢false e)
  duty-not-held Closed e = refl

  pub duty-step : (t : List Slot) (i : ℕ) → i < length t → duty_from own (duty_at own d (get_or t i Free)) (drop (i + 1) t) ≡ duty_from own d (drop i t)
  unfolding duty_from
  duty-step t i lt = rw (add-one i, drop-cons t i Free lt) refl

  pub duty-end : (t : List Slot) (i : ℕ) → length t ≤ i → d ≡ duty_from own d (drop i t)
  unfolding duty_from
  duty-end t i le = rw (drop_of_length-le t le) refl
