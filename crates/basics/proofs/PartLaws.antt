-- A part of the words that was lent and put back: it is itself, and the words outside it stay.
use Prim.Native.Nat.{ℕ, ◌+◌, ◌-◌, ◌<◌, ◌≤◌}
use native.Mathlib.Omega.{arith}
use mathlib.Core.Path.{◌≡◌, ap, sym, ◌∙◌}
use mathlib.Core.Logic.{inl, inr, ◌⊎◌}
use mathlib.Core.List.{List, ◌++◌}
use lib.ListN.{length, get_or, take, drop}
use lib.Seq.{get_or-take, get_or-drop, take_at, drop_at, length-take-le}
use borrow.Rule.Slice.PartMut.{put_mid, post_of, take_put, drop_put, same_len_mid, mid_len}

module _ (a e : ℕ) (ws t : List ℕ) (ae : a ≤ e) (el : e ≤ length ws) (lt : length t ≡ e - a) where
  abbrev back : List ℕ
  back = put_mid a (e - a) ws t

  pub length_back : length back ≡ length ws
  length_back = same_len_mid a (e - a) ws t (lt ∙ sym (mid_len a e ws el))

  pub part_same : take (e - a) (drop a back) ≡ t
  part_same = rw (drop_at (take a ws) (t ++ post_of a (e - a) ws) a (length-take-le a ws (omega arith))) (take_at t (post_of a (e - a) ws) (e - a) lt)

  pub outside : (q : ℕ) → (q < a) ⊎ (e ≤ q) → get_or back q 0 ≡ get_or ws q 0
  outside q (inl h) =
      sym (get_or-take a back q 0 h) ∙ ap (λ (l : List ℕ). get_or l q 0) (take_put a (e - a) ws t (omega arith)) ∙ get_or-take a ws q 0 h
  outside q (inr h) =
      let s : e + (q - e) ≡ q = omega arith in
      ap (λ (n : ℕ). get_or back n 0) (sym s) ∙ sym (get_or-drop e back (q - e) 0)
      ∙ ap (λ (l : List ℕ). get_or l (q - e) 0) (drop_put a e ws t ae el lt) ∙ get_or-drop e ws (q - e) 0 ∙ ap (λ (n : ℕ). get_or ws n 0) s
