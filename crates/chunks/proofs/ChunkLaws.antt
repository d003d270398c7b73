-- Any cutting: chunks added one after another are their octets joined.
use Prim.Native.Nat.{ℕ, ◌+◌, ◌≤◌}
use native.Mathlib.Omega.{arith}
use mathlib.Core.Path.{◌≡◌, refl, ap, ◌∙◌}
use mathlib.Core.List.{List, [], ◌∷◌, ◌++◌, append_assoc, append-nil}
use lib.ListN.{length, length-append}
use borrow.Author.Tests.{le-ltb}
use Rattle.chunks.specs.Chunks.{Unfinished, Frame, most_octets, As, join, after, after_all, joined}

-- one that fits
pub join-fits : (mac : ℕ) (octets chunk : List ℕ) → length octets + length chunk ≤ most_octets → join (Frame mac octets) chunk ≡ As (Frame mac (octets ++ chunk))
unfolding join
join-fits mac octets chunk h = rw (le-ltb most_octets (length octets + length chunk) h) refl

pub after-joined : (mac : ℕ) (octets : List ℕ) (cs : List (List ℕ)) → length octets + length (joined cs) ≤ most_octets
    → after_all (Frame mac octets) cs ≡ Frame mac (octets ++ joined cs)
unfolding after_all joined after
after-joined mac octets [] h = rw append-nil refl
after-joined mac octets (c ∷ cs) h =
    let l : length (c ++ joined cs) ≡ length c + length (joined cs) = length-append c (joined cs) in
    let m : length (octets ++ c) ≡ length octets + length c = length-append octets c in
    ap (λ (u : Unfinished). after_all u cs) (ap (after (Frame mac octets)) (join-fits mac octets c (omega arith)))
    ∙ after-joined mac (octets ++ c) cs (omega arith)
    ∙ ap (Frame mac) (append_assoc octets c (joined cs))
