-- Orders for hellos (document 01, "Timers while Restarting"; document 02, W-201 and W-202; RFC 8706, 3.3): of which T1s, and with which flags.
use Rattle.std.specs.Prelude.{ℕ, Bool, false, cond, List, replicate}
use Rattle.basics.specs.Mask.{t1_places, bits_of, any_true}
use Rattle.restart_tlv.specs.Flags.{RR}
use Rattle.timer_parts.specs.T1.{RRandSA, begins}
use Rattle.timer_parts.specs.declared.t1.T1.{T1}
use Rattle.settings.specs.Mode.{is_starting}
use Rattle.settings.specs.declared.mode.Mode.{Mode}
use Rattle.timers.specs.declared.hellos.HelloOrder.{HelloOrder}
use Rattle.timers.specs.declared.hellos.HelloOrder.TheVariants.{Nothing, Suppress}
use Rattle.timers.specs.declared.hellos.HelloOrders.{HelloOrders}

-- document 02, W-202: "Hello orders are by level": over the T1s, two places for each circuit. On a LAN the first is the hello of level 1, the second
-- that of level 2; on P2P the first is the one hello. The flags are 0 where no hello is ordered.
pub record Hellos : Type 0 where
  pub t1s : List Bool
  pub flags : ℕ

-- a mask's digits for hello orders
abbrev pub hello_count : ℕ
hello_count = t1_places

abbrev pub hello_bits : ℕ → List Bool
hello_bits m = bits_of hello_count m

-- a hello with these flags for each of these T1s
unfoldable pub ordering : ℕ → List Bool → Hellos
ordering flags on = record { t1s = on; flags = cond (any_true on) flags 0 }

abbrev pub no_hellos : Hellos
no_hellos = record { t1s = replicate hello_count false; flags = 0 }

-- the code's
abbrev pub hellos_of : HelloOrders → Hellos
hellos_of o = record { t1s = hello_bits o.t1s; flags = o.flags.bits }

-- "order the hello again": with RR; document 02, W-201: "from its first expiry while it runs hellos carry RR and SA"
abbrev pub again_flags : Mode → ℕ
again_flags mode = cond (is_starting mode) RRandSA RR

-- document 02, W-201: T1 begins "with a hello of RR clear and SA set"
unfoldable pub begin_hello : Bool → T1 → HelloOrder
begin_hello up t = cond (begins up t) Suppress Nothing
