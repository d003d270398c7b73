-- The settings as octets (house), and what setup on them is to do. Numbers are big-endian; places count from 0:
--
--   place  0-5     6-7  8-9  10     11-14  15    16     17-
--          system  t1   t2   tries  clock  mode  count  as many circuits as a gateway has at most
--
-- and of each circuit's 19 octets
--
--          0     1       2-7  8         9-10  11-14   15-18
--          kind  levels  mac  priority  hold  metric  id
use Rattle.std.specs.Prelude.{ℕ, ◌+◌, ◌*◌, ◌≡◌, Bool, cond, ◌&&◌, List, map, take, eqb}
use Rattle.basics.specs.Octets.{octet, big}
use Rattle.basics.specs.Mask.{circuits}
use Rattle.basics.specs.declared.refusal.Refusal.TheVariants.{BadSetting}
use Rattle.basics.specs.Lists.{tabulate, every}
use Rattle.settings.specs.declared.circuit.Circuit.{Circuit}
use Rattle.settings.specs.declared.setup.Settings.{Settings}
use Rattle.model.specs.Numbers.{refusal_no}
use Rattle.model.specs.Gateway.{Setup, Refused as RefusedSetup, setup}
use Rattle.gateway.specs.Whole.{whole_of}
use Rattle.own_words.specs.Setup.{Refused as RefusedReport, report_in, started_in}
use Rattle.isis_gr.specs.Words.{report_no, mode_of, mode_known, kind_of, kind_known, levels_of, levels_known}

-- where the octets of each circuit start
abbrev pub circuit_place : ℕ → ℕ
circuit_place i = 17 + 19 * i

abbrev pub circuit_places : List ℕ
circuit_places = tabulate circuit_place circuits

abbrev pub settings_octets : ℕ
settings_octets = circuit_place circuits

-- the circuit whose octets start at a
unfoldable pub circuit_from : List ℕ → ℕ → Circuit
circuit_from s a =
    record {
      kind = kind_of (octet s a);
      levels = levels_of (octet s (a + 1));
      mac = big 6 s (a + 2);
      priority = octet s (a + 8);
      hold = big 2 s (a + 9);
      metric = big 4 s (a + 11);
      id = big 4 s (a + 15);
    }

unfoldable pub settings_from : List ℕ → Settings
settings_from s =
    record {
      system = big 6 s 0;
      lengths = record { t1 = big 2 s 6; t2 = big 2 s 8; tries = octet s 10 };
      clock = big 4 s 11;
      mode = mode_of (octet s 15);
      count = octet s 16;
      circuits = map (circuit_from s) circuit_places;
    }

-- whether a circuit's kind and levels are numbers that are known
abbrev pub circuit_known : List ℕ → ℕ → Bool
circuit_known s a = kind_known (octet s a) && levels_known (octet s (a + 1))

-- whether the mode is, and those of the first `count` circuits
unfoldable pub settings_known : List ℕ → Bool
settings_known s = mode_known (octet s 15) && every (circuit_known s) (take (octet s 16) circuit_places)

-- The version of the octets' and the words' layout, which rises whenever one of them does: a caller's object hands its own on, since the header
-- packs the octets and takes the words apart in the caller.
abbrev pub layout : ℕ
layout = 10

-- document 01, "Refusals by number", 12: another version, and a number that is not known, is a setting out of range
unfoldable pub setup_from : ℕ → List ℕ → Setup
setup_from version s =
    cond (eqb version layout) (cond (settings_known s) (setup (settings_from s)) (RefusedSetup (refusal_no BadSetting)))
    (RefusedSetup (refusal_no BadSetting))

-- The number w of a setup on the words ws with the outcome o, whatever octets there are: a refusal leaves every word as it was.
pub record EncodesSetup (w : ℕ) (o : Setup) (ws ws' : List ℕ) : Type 0 where
  pub number : w ≡ report_no (report_in o)
  pub next : (fs : List ℕ) → whole_of ws' fs ≡ started_in (whole_of ws fs) o
  pub kept : (x : ℕ) → report_in o ≡ RefusedReport x → ws' ≡ ws
