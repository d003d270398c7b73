-- A frame with no Restart TLV, or with one that is ignored, beside the same frame with all flags clear (document 02, W-203).
use Prim.Native.Nat.{ℕ}
use mathlib.Core.Path.{◌≡◌, refl}
use mathlib.Core.Bool.{Bool, true, false, cond}
use mathlib.Core.Logic.{◌⊎◌, inl, inr}
use Rattle.basics.specs.Octets.{has_bits}
use Rattle.restart_tlv.specs.declared.reader.RestartTlv.{RestartTlv}
use Rattle.restart_tlv.specs.declared.reader.RestartTlv.TheVariants.{Absent as NoTlv, Ignored, Present as Tlv}
use Rattle.hello.specs.declared.read.Hello.{Hello}
use Rattle.hello.specs.declared.read.Link.{Link}
use Rattle.hello.specs.declared.read.Link.TheVariants.{Lan, P2p}
use Rattle.basics.specs.declared.refusal.Refusal.TheVariants.{WrongNeighbor}
use Rattle.adjacency.specs.Record.{phase_of, mark_of, suppressed_of}
use Rattle.adjacency.specs.Step.{wrong_neighbor, link_step, kept_up, step_of}
use Rattle.adjacency.specs.Marks.{last_line, planned, all_clear, line_by, line_of, suppressed_by, time_in, road_of}
use Rattle.adjacency.specs.React.{has_tlv, data_by, accepted_by, line_in, react_of}
use Rattle.adjacency.specs.declared.record.Mark.{Mark}
use Rattle.adjacency.specs.declared.record.Mark.TheVariants.{Clear, Restart, Planned}
use Rattle.adjacency.specs.declared.record.Phase.{Phase}
use Rattle.adjacency.specs.declared.record.Phase.TheVariants.{Gone, Init as InitPhase, Up as UpPhase}
use Rattle.adjacency.specs.declared.record.Data.{Data}
use Rattle.adjacency.specs.declared.record.State.TheVariants.{Init, Up}
use Rattle.adjacency.specs.declared.step.Here.{Here}
use Rattle.adjacency.specs.declared.marks.Road.{Road}
use Rattle.std.specs.Prelude.{Option, Some, None, Ok, Err}
use Rattle.adjacency.specs.React.{Reaction}
use Rattle.adjacency.specs.declared.record.State.{State}

-- line 4 or 5, by the mark alone
pub clear-line : (tlv : RestartTlv) (mark : Mark) (before after : Phase) → (tlv ≡ NoTlv) ⊎ (tlv ≡ Ignored) → line_of tlv mark before after ≡ last_line mark
unfolding line_of line_by planned has_bits
clear-line tlv mark before after (inl e) = rw e refl
clear-line tlv mark before after (inr e) = rw e refl

clear-time : (tlv : RestartTlv) → (tlv ≡ NoTlv) ⊎ (tlv ≡ Ignored) → time_in tlv ≡ 0
clear-time tlv (inl e) = rw e refl
clear-time tlv (inr e) = rw e refl

pub clear-road : (tlv : RestartTlv) (mark : Mark) (was : Bool) (before after : Phase) → (tlv ≡ NoTlv) ⊎ (tlv ≡ Ignored)
    → ◌≡◌ {A = Road} (record { line = last_line mark; time = 0; suppressed = suppressed_by tlv was }) (road_of tlv mark was before after)
clear-road tlv mark was before after e = rw (clear-line tlv mark before after e, clear-time tlv e) refl

-- h with this Restart TLV
abbrev carrying : RestartTlv → Hello → Hello
carrying r h = record { system = h.system; hold = h.hold; restart = r; reverse = h.reverse; link = h.link }

-- Suppressed or not, with the TLV in its last frame or not; all else as it is
abbrev labelled : Bool → Bool → Data → Data
labelled suppressed tlv d =
    record {
      expiry = d.expiry;
      suppressed = suppressed;
      last = record { priority = d.last.priority; tlv = tlv; reverse = d.last.reverse };
    }

abbrev labelled_in : Bool → Bool → Option State → Option State
labelled_in suppressed tlv None = None
labelled_in suppressed tlv (Some (Init d)) = Some (Init (labelled suppressed tlv d))
labelled_in suppressed tlv (Some (Up d m)) = Some (Up (labelled suppressed tlv d) m)

abbrev but : Bool → Bool → Reaction → Reaction
but suppressed tlv (Err why) = Err why
but suppressed tlv (Ok (after, reply, line)) = Ok (labelled_in suppressed tlv after, reply, line)

module _ (here : Here) (h : Hello) (before : Option State) (time : ℕ) (n : Option ℕ) where
  abbrev clear : Hello
  clear = carrying (Tlv all_clear time n) h

  -- lines 4 and 5 look at no Remaining Time and give no reply
  accepted-as : (r : RestartTlv) (m : Mark) (p : Phase)
      → accepted_by (last_line m) p here (carrying r h) before
      ≡ but (suppressed_by r (suppressed_of before)) (has_tlv r) (accepted_by (last_line m) p here clear before)
  unfolding accepted_by data_by
  accepted-as r Clear Gone = refl
  accepted-as r Clear InitPhase = refl
  accepted-as r Clear UpPhase = refl
  accepted-as r Restart Gone = refl
  accepted-as r Restart InitPhase = refl
  accepted-as r Restart UpPhase = refl
  accepted-as r Planned Gone = refl
  accepted-as r Planned InitPhase = refl
  accepted-as r Planned UpPhase = refl

  -- RR is in neither, so refusal 8 is the same
  refused_as : (r : RestartTlv) (l : Link) → (r ≡ NoTlv) ⊎ (r ≡ Ignored)
      → wrong_neighbor here (phase_of before) (carrying r h) l ≡ wrong_neighbor here (phase_of before) clear l
  unfolding wrong_neighbor has_bits
  refused_as r (Lan level priority listed) e = refl
  refused_as r (P2p t) (inl e) = rw e refl
  refused_as r (P2p t) (inr e) = rw e refl

  either : (b : Bool) (suppressed tlv : Bool) (x y : Reaction) → x ≡ but suppressed tlv y
      → cond b (Err WrongNeighbor) x ≡ but suppressed tlv (cond b (Err WrongNeighbor) y)
  either true suppressed tlv x y e = refl
  either false suppressed tlv x y e = e

  abbrev after : Phase
  after = link_step here (phase_of before) h.link

  -- "a frame without the TLV is from now on read as one with all flags clear", whatever record stood; but the record counts as lacking the TLV
  pub bare-as-clear : react_of here (carrying NoTlv h) before ≡ but false false (react_of here clear before)
  unfolding react_of line_in line_of line_by planned step_of kept_up has_bits
  bare-as-clear =
      rw (refused_as NoTlv h.link (inl refl))
      (either (wrong_neighbor here (phase_of before) clear h.link) false false _ _ (accepted-as NoTlv (mark_of before) after))

  -- an ignored TLV does the same, but that Suppressed stays as it was, and that the record counts as having the TLV
  pub ignored-as-clear : react_of here (carrying Ignored h) before ≡ but (suppressed_of before) true (react_of here clear before)
  unfolding react_of line_in line_of line_by planned step_of kept_up has_bits
  ignored-as-clear =
      rw (refused_as Ignored h.link (inr refl))
      (either (wrong_neighbor here (phase_of before) clear h.link) (suppressed_of before) true _ _ (accepted-as Ignored (mark_of before) after))
