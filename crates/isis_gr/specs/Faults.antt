-- Which setting setup refuses, by its number (house): the first in the order of the settings' octets, with the version of the caller's layout
-- ahead of them; 0 where none is. The ranges are document 01's, "What the gateway holds".
--
--   1 version  2 T1  3 T2  4 tries  5 mode  6 count of circuits; of a circuit: 7 kind  8 levels  9 priority  10 holding time  11 metric
use Rattle.std.specs.Prelude.{ℕ, suc, ◌+◌, ◌*◌, ◌≡◌, Bool, cond, ◌&&◌, List, [], ◌∷◌, take, eqb}
use Rattle.basics.specs.Octets.{octet, big}
use Rattle.basics.specs.Mask.{circuits}
use Rattle.settings.specs.Settings.{between, settings_ok}
use Rattle.isis_gr.specs.Words.{mode_known, kind_known}
use Rattle.isis_gr.specs.Settings.{layout, circuit_places, settings_from, settings_known}

-- n, unless the test holds: then what follows
abbrev pub or_else : Bool → ℕ → ℕ → ℕ
or_else ok n next = cond ok next n

-- of the circuit whose octets start at a
unfoldable pub circuit_fault : List ℕ → ℕ → ℕ
circuit_fault s a =
    or_else (kind_known (octet s a)) 7
    (or_else (between 1 (octet s (a + 1)) 3) 8
    (or_else (between 0 (octet s (a + 8)) 127) 9
    (or_else (between 1 (big 2 s (a + 9)) 65535) 10 (or_else (between 0 (big 4 s (a + 11)) 16777214) 11 0))))

-- of the circuits at these places, of which the first has the number n: with the circuit's number in the second octet
unfoldable pub circuits_fault : List ℕ → List ℕ → ℕ → ℕ
circuits_fault s [] n = 0
circuits_fault s (a ∷ as') n = cond (eqb (circuit_fault s a) 0) (circuits_fault s as' (suc n)) (circuit_fault s a + 256 * n)

-- of the settings that are no circuit's
unfoldable pub whole_fault : List ℕ → ℕ
whole_fault s =
    or_else (between 1 (big 2 s 6) 65535) 2
    (or_else (between 1 (big 2 s 8) 65535) 3
    (or_else (between 1 (octet s 10) 255) 4 (or_else (mode_known (octet s 15)) 5 (or_else (between 1 (octet s 16) circuits) 6 0))))

unfoldable pub fault_of : ℕ → List ℕ → ℕ
fault_of version s =
    or_else (eqb version layout) 1
    (cond (eqb (whole_fault s) 0) (circuits_fault s (take (octet s 16) circuit_places) 1) (whole_fault s))

-- No fault is told exactly where setup is not refused.
abbrev pub FaultsTell : Type 0
FaultsTell =
    (version : ℕ) (s : List ℕ) → eqb (fault_of version s) 0 ≡ (eqb version layout && (settings_known s && settings_ok (settings_from s)))
