-- The laws of the calls: the T1 entries put back and the head stored change the timers alone; by the mode, what a call leaves.
use Prim.Native.Nat.{ℕ}
use native.Mathlib.Omega.{arith}
use mathlib.Core.Path.{◌≡◌, refl, ap, sym, subst, ◌∙◌}
use mathlib.Core.Bool.{Bool, true, false, true≢false}
use mathlib.Core.Logic.{inl, inr}
use mathlib.Core.List.{List}
use lib.Dec.{eqb}
use lib.ListN.{length, get_or}
use borrow.Author.Tests.{eqb-true}
use borrow.Rule.Slice.PartMut.{put_mid}
use Rattle.basics.proofs.BoolLaws.{by-test}
use Rattle.timer_parts.specs.declared.heard.Heard.{Heard}
use Rattle.timer_parts.specs.declared.t1.Freed.TheVariants.{Kept}
use Rattle.settings.specs.declared.lengths.Lengths.{Lengths}
use Rattle.settings.specs.declared.serving.Serving.{Serving}
use Rattle.timers.specs.Timers.{Timers, settled, to_t3, heard_in}
use Rattle.timers.specs.Memory.{word_count, timers_of, timers_at}
use Rattle.settings.specs.Mode.{is_running}
use Rattle.timers.specs.Outcome.{ordered, tick_hellos}
use Rattle.timers.specs.Hellos.{Hellos, hello_bits}
use Rattle.timers.specs.Events.{Closes, Ticks, Hears}
use Rattle.timers.specs.declared.events.HeardOrders.{HeardOrders}
use Rattle.timers.specs.declared.hellos.HelloOrder.TheVariants.{Nothing}
use Rattle.settings.specs.declared.mode.Mode.TheVariants.{Running}
use Rattle.timers.specs.declared.head.Head.{Head}
use Rattle.timers.specs.declared.outcome.TimerOutcome.{TimerOutcome}
use Rattle.timers.specs.declared.outcome.TimerOutcome.TheVariants.{Idle}
use Rattle.timers.proofs.T1sLaws.{bits_none}
use Rattle.timers.proofs.TimersLaws.{settled_on, ordered-on, hellos-on, settled-off, ordered-off, hellos-off, heard-off}
use Rattle.control.specs.Words.{control_words, seal_place, entries_place, circuits_place, head_place, seal, sealed, head_of, serving_of, entries_of, common_of, entries_end}
use Rattle.control.specs.Common.{Common, with_clock, with_timers}
use Rattle.control.proofs.CommonLaws.{Keeps, serving-kept, timers-changed}
use Rattle.control.proofs.HeadLaws.{mode-at}
use Rattle.control.specs.Timing.{On, CommonSettles, CommonHears, CommonTicksOn, CommonTicks}
use Rattle.basics.proofs.PartLaws.{length_back, part_same, outside}

-- ---- the mode

-- memory whose mode is not Running was set up
pub on-sealed : (ws : List ℕ) → On ws → get_or ws seal_place 0 ≡ seal
unfolding sealed
on-sealed ws m =
    by-test (eqb (get_or ws seal_place 0) seal) (λ q. eqb-true (get_or ws seal_place 0) seal q)
    (λ q.
    let e : (common_of ws).timers.mode ≡ Running = sym (mode-at ws) ∙ rw q refl in
    absurd (true≢false (sym (ap is_running e) ∙ m)))

-- ---- the head, and the entries put back

pub timers-now : (ws : List ℕ) (v : Serving) (h : Head) → v ≡ serving_of ws → h ≡ head_of ws → timers_at v h (entries_of ws) ≡ (common_of ws).timers
unfolding common_of
timers-now ws v h g e = rw (g, e) refl

pub on-head : (ws : List ℕ) (h : Head) → h ≡ head_of ws → On ws → is_running h.mode ≡ false
unfolding common_of timers_of
on-head ws h e m = ap (λ (x : Head). is_running x.mode) e ∙ m

module _ (ws t : List ℕ) (len : length ws ≡ control_words) (lt : length t ≡ word_count) where
  abbrev back : List ℕ
  back = put_mid entries_place word_count ws t

  pub length-put : length back ≡ control_words
  length-put = length_back entries_place entries_end ws t (omega arith) (omega arith) lt ∙ len

  put_keeps : Keeps entries_place entries_end ws back
  put_keeps = outside entries_place entries_end ws t (omega arith) (omega arith) lt

  pub seal-put : get_or ws seal_place 0 ≡ seal → get_or back seal_place 0 ≡ seal
  seal-put m = put_keeps seal_place (inl (omega arith)) ∙ m

  -- then the head is stored
  pub put-stored : (u : List ℕ) (v : Serving) (h : Head) → v ≡ serving_of ws
      → common_of u ≡ with_timers (timers_at (serving_of back) h (entries_of back)) (common_of back) → common_of u ≡ with_timers (timers_at v h t) (common_of ws)
  put-stored u v h g p =
      p ∙ ap (λ (c : Common). with_timers (timers_at (serving_of back) h (entries_of back)) c) (timers-changed ws back wider)
      ∙ ap (λ (x : Serving). with_timers (timers_at x h (entries_of back)) (common_of ws))
      (serving-kept entries_place entries_end ws back put_keeps (inl (omega arith)) ∙ sym g)
      ∙ ap (λ (l : List ℕ). with_timers (timers_at v h l) (common_of ws)) (part_same entries_place entries_end ws t (omega arith) (omega arith) lt)
    where
      wider : Keeps head_place circuits_place ws back
      wider q (inl h) = put_keeps q (inl (omega arith))
      wider q (inr h) = put_keeps q (inr (omega arith))

-- ---- what a call leaves

module _ (ws u : List ℕ) (after : Timers) (p : common_of u ≡ with_timers after (common_of ws)) (m : On ws) where
  settles_on : (f : Timers → Timers) (o : TimerOutcome) → Closes f (common_of ws).timers after o → CommonSettles f ws u o
  settles_on f o s =
      record {
        common = p ∙ ap (λ (t : Timers). with_timers t (common_of ws)) (s.timers ∙ settled_on (common_of ws).timers m f);
        outcome = s.outcome ∙ ordered-on (common_of ws).timers m f;
        kept = λ r. absurd (true≢false (sym r ∙ m));
      }

  module _ (v : Serving) (h : Head) (g : v ≡ serving_of ws) (e : h ≡ head_of ws) where
    pub settles-here : (f : Timers → Timers) (o : TimerOutcome) → Closes f (timers_at v h (entries_of ws)) after o → CommonSettles f ws u o
    settles-here f o s = settles_on f o (subst (λ (t : Timers). Closes f t after o) (timers-now ws v h g e) s)

    pub hears-here : (lengths : Lengths) (clock i : ℕ) (rose : Bool) (d : Heard) (o : HeardOrders) → lengths ≡ (common_of ws).lengths
        → clock ≡ (common_of ws).clock → Hears lengths clock i rose d (timers_at v h (entries_of ws)) after o → CommonHears i rose d ws u o
    hears-here lengths clock i rose d o j k s =
        let y = subst (λ (n : ℕ). Hears lengths n i rose d (timers_at v h (entries_of ws)) after o) k s in
        let x = subst (λ (t : Timers). Hears (common_of ws).lengths (common_of ws).clock i rose d t after o) (timers-now ws v h g e)
        (subst (λ (n : Lengths). Hears n (common_of ws).clock i rose d (timers_at v h (entries_of ws)) after o) j y) in
        record {
          common = p ∙ ap (λ (t : Timers). with_timers t (common_of ws))
              (x.timers ∙ settled_on (common_of ws).timers m (heard_in (common_of ws).lengths (common_of ws).clock i rose d));
          orders = x.orders;
          kept = λ r. absurd (true≢false (sym r ∙ m));
        }

    pub ticks-here : (lengths : Lengths) (clock : ℕ) (o : TimerOutcome) (hs : Hellos) → lengths ≡ (common_of ws).lengths
        → Ticks lengths clock (timers_at v h (entries_of ws)) after o hs → CommonTicksOn clock ws u o hs
    ticks-here lengths clock o hs k s =
        let x = subst (λ (t : Timers). Ticks (common_of ws).lengths clock t after o hs) (timers-now ws v h g e)
        (subst (λ (n : Lengths). Ticks n clock (timers_at v h (entries_of ws)) after o hs) k s) in
        record {
          settles = settles_on (to_t3 (common_of ws).lengths clock) o x.closes;
          hellos = x.hellos ∙ hellos-on (common_of ws).timers m (common_of ws).lengths clock;
        }

-- while the mode is Running
module _ (ws : List ℕ) (m : is_running (common_of ws).timers.mode ≡ true) where
  settles-still : (f : Timers → Timers) → CommonSettles f ws ws Idle
  settles-still f =
      record {
        common = ap (λ (t : Timers). with_timers t (common_of ws)) (settled-off (common_of ws).timers m f);
        outcome = ordered-off (common_of ws).timers m f;
        kept = λ r. refl;
      }

  pub hears-still : (i : ℕ) (rose : Bool) (d : Heard)
      → CommonHears i rose d ws ws (record { outcome = Idle; freed = Kept; hello = Nothing })
  hears-still i rose d =
      record {
        common = (settles-still (heard_in (common_of ws).lengths (common_of ws).clock i rose d)).common;
        orders = heard-off (common_of ws).timers m (common_of ws).lengths (common_of ws).clock i rose d;
        kept = λ r. refl;
      }

  pub ticks-still : (clock : ℕ) → CommonTicksOn clock ws ws Idle (record { t1s = hello_bits 0; flags = 0 })
  ticks-still clock =
      record {
        settles = settles-still (to_t3 (common_of ws).lengths clock);
        hellos = ap (λ (l : List Bool). record { t1s = l; flags = 0 }) bits_none ∙ hellos-off (common_of ws).timers m (common_of ws).lengths clock;
      }

-- the clock is moved first
pub ticks-moved : (ws mid u : List ℕ) (clock : ℕ) (o : TimerOutcome) (hs : Hellos) → common_of mid ≡ with_clock clock (common_of ws)
    → CommonTicksOn clock mid u o hs → CommonTicks clock ws u o hs
ticks-moved ws mid u clock o hs e x =
    record {
      common = x.settles.common ∙ ap (λ (c : Common). with_timers (settled (to_t3 c.lengths clock) c.timers) c) e;
      outcome = x.settles.outcome ∙ ap (λ (c : Common). ordered (to_t3 c.lengths clock) c.timers) e;
      hellos = x.hellos ∙ ap (λ (c : Common). tick_hellos c.lengths clock c.timers) e;
    }
