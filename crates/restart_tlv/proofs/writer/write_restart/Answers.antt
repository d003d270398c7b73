-- The three parts that are written are the eleven octets, and what was there follows them.
use Rattle.basics.specs.Octets.{octets_of}
use Rattle.restart_tlv.specs.Restart.{restart_octets}
use Rattle.std.proofs.Common.{◌≡◌, ℕ, List, drop, refl, sym, ◌∙◌}
use Rattle.std.proofs.lemmas.List.{drop-drop}
use Rattle.restart_tlv.proofs.writer.write_restart.Goals as goal

behind : (s : List ℕ) → drop 11 s ≡ drop 6 (drop 2 (drop 3 s))
behind s = sym (drop-drop 6 2 (drop 3 s) ∙ drop-drop 8 3 s)

pub returns : goal.returns
unfolding restart_octets octets_of
returns c =
    rw (
      behind c.args.out.now,
      c.copy_from_slice.ensures.after,
      c.copy_from_slice-2.ensures.after,
      c.copy_from_slice-3.ensures.after,
      c.to_be_bytes.ensures,
      c.six_octets.ensures,
      c.flags_of.ensures,
    )
    refl
