-- The laws of the calls beside receive: what each stage comes to.
use Prim.Native.Nat.{ℕ, suc, ◌+◌, ◌-◌, ◌<◌, ◌≤◌}
use native.Mathlib.Omega.{arith}
use native.Mathlib.Numerals.{add-one}
use mathlib.Core.Path.{◌≡◌, refl, ap, sym, subst, ◌∙◌}
use mathlib.Core.Bool.{Bool, true, false, cond}
use mathlib.Core.List.{List, [], ◌∷◌, ◌++◌, map, append-nil}
use lib.ListN.{length, get_or, set, take, drop, drop_of_length-le}
use lib.Seq.{take-suc-set, drop-set-lt, drop-cons, append_snoc, take_all}
use borrow.Author.Tests.{lt-ltb, le-ltb}
use borrow.Rule.Slice.PartMut.{put_mid}
use Rattle.own_words.specs.Tick.{ticked_common, SweepsAll}
use Rattle.basics.specs.declared.refusal.Refusal.TheVariants.{NoCircuit, ClockBack, NotRestarting}
use Rattle.basics.specs.Levels.{has_level, only_level}
use Rattle.adjacency.specs.declared.record.Key.{Key}
use Rattle.slots.specs.Slots.{table_of, room_words}
use Rattle.adjacency.specs.Place.{expired_by}
use Rattle.adjacency.specs.declared.place.Slot.{Slot}
use Rattle.room.specs.Table.{find, released, first_state, expired, any_expired, empty_room}
use Rattle.room.specs.Sweep.{Sweeps}
use Rattle.metric.specs.Metric.{link_metric}
use Rattle.restart_tlv.specs.declared.flags.Flags.{Flags}
use Rattle.basics.specs.declared.levels.Levels.{Levels}
use Rattle.basics.specs.Mask.{bits_of, circuits}
use Rattle.timer_parts.specs.T1.{hello_flags}
use Rattle.timers.specs.Hellos.{Hellos}
use Rattle.timers.specs.Timers.{Timers, to_t3, csnp_in, notice_t2s, no_t1, count_runs, lowest_runs}
use Rattle.settings.specs.Mode.{is_running}
use Rattle.timers.specs.Outcome.{ordered, tick_hellos}
use Rattle.timers.specs.declared.outcome.TimerOutcome.{TimerOutcome}
use Rattle.settings.specs.Settings.{enabled_levels}
use Rattle.settings.specs.Serving.{t1_place}
use Rattle.settings.specs.declared.circuit.Circuit.{Circuit}
use Rattle.control.specs.Words.{count_of, common_of, control_words}
use Rattle.control.specs.Common.{Common}
use Rattle.control.proofs.CommonLaws.{circuits-length}
use Rattle.control.specs.Timing.{CommonSettles, CommonTicks}
use Rattle.adjacency.specs.Keys.{key_on}
use Rattle.model.specs.Numbers.{some_waits, lowest_no}
use Rattle.model.specs.Answers.{Answer, Refused, Ticked, Told, Fact, Done, Noticed, Looked, Metric, HelloFlags, Waits, timers_answer, record_answer, lost_bits}
use Rattle.model.specs.Gateway.{Gateway, Room, with_slots, with_rooms, with_common, no_room, renew, room_of}
use Rattle.model.specs.Receive.{Acted, refuse}
use Rattle.model.specs.Step.{Call, Judged, Refused as RefusedCall, Tell, Release, Clear, CsnpComplete, LookUp, LinkMetric, NextHello, Tick, DatabaseComplete, Waiting, Over, told, act, asks_level, csnp_of, csnp_complete, look_up, link_metric_of, flags_at, next_hello, notice_of, settled_by, lift, none_of, quiet, tick_of, database_of, judge, carry, swept_room, lapsed, step}
use Rattle.own_words.specs.Words.{own_words, room_place, gateway_of, Meets}
use Rattle.basics.specs.Lists.{part}
use Rattle.own_words.proofs.WordLaws.{along, asks, common-at, common-put, room-put, room-at, room-of, renew-at, same-room}
use Rattle.std.specs.Prelude.{Option}
use Rattle.adjacency.specs.declared.record.State.{State}

-- ---- a call on a circuit that changes the common part, or the circuit's own

module _ (ws : List ℕ) (n : ℕ) (len : length ws ≡ own_words) where
  abbrev g : Gateway
  g = gateway_of ws

  common-acts : (f : Common → Room → Acted) (x : Fact) (u : List ℕ) → length u ≡ control_words → Told x ≡ (f g.common (room_of g n)).answer
      → [] ≡ (f g.common (room_of g n)).reply → common_of u ≡ (f g.common (room_of g n)).common → room_of g n ≡ (f g.common (room_of g n)).room
      → Meets (Told x) (lift g n f) ws (put_mid 0 control_words ws u) []
  unfolding lift
  common-acts f x u lu p q c r =
      record {
        answer = p;
        reply = q;
        next =
            common-put ws u len lu ∙ ap (with_common g) c
            ∙ ap (λ (l : List Room). with_rooms (with_common g (f g.common (room_of g n)).common) l) (sym (same-room g.rooms n) ∙ ap (renew g.rooms n) r);
        kept = λ y z. absurd (let w : ◌≡◌ {A = ℕ} 0 1 = cc in omega arith);
      }

  -- a call that changes its circuit's room alone, and answers that it was done
  room-acts : (lo : 0 < n) (hi : n ≤ circuits) (new : List Slot) (t : List ℕ) → length t ≡ room_place (n - 1) + room_words - room_place (n - 1)
      → table_of t ≡ new
      → Meets (Told Done) (lift g n (λ c r. told Done c (with_slots r new))) ws (put_mid (room_place (n - 1)) (room_place (n - 1) + room_words - room_place (n - 1)) ws t) []
  unfolding lift
  room-acts lo hi new t lt e =
      let r : Room = record { slots = new } in
      let q : record { slots = table_of t } ≡ r = ap (λ x. record { slots = x }) e in
      record {
        answer = refl;
        reply = refl;
        next = room-put ws t len (n - 1) (omega arith) lt ∙ ap (λ (x : Room). with_rooms g (set g.rooms (n - 1) x)) q ∙ ap (with_rooms g) (sym (renew-at g.rooms n r lo));
        kept = λ y z. absurd (let w : ◌≡◌ {A = ℕ} 0 1 = cc in omega arith);
      }

  -- release
  pub releases : (lo : 0 < n) (hi : n ≤ circuits) (s : Circuit) (t : List ℕ) → length t ≡ room_place (n - 1) + room_words - room_place (n - 1)
      → table_of t ≡ released (table_of (part (room_place (n - 1)) (room_place (n - 1) + room_words - room_place (n - 1)) ws))
      → Meets (Told Done) (lift g n (act n s Release)) ws (put_mid (room_place (n - 1)) (room_place (n - 1) + room_words - room_place (n - 1)) ws t) []
  unfolding lift act
  releases lo hi s t lt e = room-acts lo hi (released (room_of g n).slots) t lt (e ∙ ap released (room-of ws n lo hi))

  -- clear
  pub clears : (lo : 0 < n) (hi : n ≤ circuits) (s : Circuit) (t : List ℕ) → length t ≡ room_place (n - 1) + room_words - room_place (n - 1)
      → table_of t ≡ empty_room s.kind
      → Meets (Told Done) (lift g n (act n s Clear)) ws (put_mid (room_place (n - 1)) (room_place (n - 1) + room_words - room_place (n - 1)) ws t) []
  unfolding lift act
  clears lo hi s t lt e = room-acts lo hi (empty_room s.kind) t lt e

  -- CSNP set complete
  module _ (s : Circuit) (level : ℕ) where
    pub csnp-off : has_level s.levels level ≡ false → lift g n (refuse [] NoCircuit) ≡ lift g n (csnp_complete n s level)
    unfolding lift csnp_complete
    csnp-off e = rw e refl

    module _ (has : has_level s.levels level ≡ true) where
      pub csnp-outside : is_running (common_of (part 0 control_words ws)).timers.mode ≡ true → lift g n (refuse [] NotRestarting) ≡ lift g n (csnp_complete n s level)
      unfolding lift csnp_complete gateway_of
      csnp-outside m = rw (has, m) refl

      pub csnp-taken : (m : is_running (common_of (part 0 control_words ws)).timers.mode ≡ false) (on : Levels) (se : on ≡ only_level level) (i : ℕ)
          → i ≡ t1_place s.kind (n - 1) level → (u : List ℕ) (lu : length u ≡ control_words) (o : TimerOutcome) → CommonSettles (csnp_in i on) (part 0 control_words ws) u o
          → Meets (Told (Noticed (timers_answer o))) (lift g n (csnp_complete n s level)) ws (put_mid 0 control_words ws u) []
      unfolding csnp_complete gateway_of
      csnp-taken m on se i ie u lu o h =
          let h' : CommonSettles (csnp_of n s level) (part 0 control_words ws) u o =
          subst (λ (x : Levels). CommonSettles (csnp_in (t1_place s.kind (n - 1) level) x) (part 0 control_words ws) u o) se
          (subst (λ (j : ℕ). CommonSettles (csnp_in j on) (part 0 control_words ws) u o) ie h) in
          common-acts (csnp_complete n s level) (Noticed (timers_answer o)) u lu (rw (has, m) (ap (λ (x : TimerOutcome). Told (Noticed (timers_answer x))) h'.outcome)) (rw (has, m) refl) (rw (has, m) h'.common) (rw (has, m) refl)

  -- look up
  module _ (s : Circuit) (k : Key) where
    pub looks-not : asks_level s.kind s.levels k.level ≡ false → lift g n (refuse [] NoCircuit) ≡ lift g n (look_up s k)
    unfolding lift look_up
    looks-not e = rw e refl

    pub looks : (lo : 0 < n) (hi : n ≤ circuits) (own : Key) (stood : Option State) (a : Answer) → asks_level s.kind s.levels k.level ≡ true → own ≡ key_on s.kind k
        → stood ≡ find own (table_of (part (room_place (n - 1)) (room_place (n - 1) + room_words - room_place (n - 1)) ws)) → a ≡ Told (Looked (record_answer stood))
        → Meets a (lift g n (look_up s k)) ws ws []
    unfolding look_up
    looks lo hi own stood a e ke f p =
        let w : stood ≡ find (key_on s.kind k) (room_of g n).slots =
        f ∙ ap (λ (x : Key). find x (table_of (part (room_place (n - 1)) (room_place (n - 1) + room_words - room_place (n - 1)) ws))) ke ∙ ap (find (key_on s.kind k)) (room-of ws n lo hi) in
        asks ws n (look_up s k) a (rw e (p ∙ ap (λ (x : Option State). Told (Looked (record_answer x))) w)) (rw e refl) (rw e refl) (rw e refl)

  -- link metric
  pub measures : (lo : 0 < n) (hi : n ≤ circuits) (s : Circuit) (stood : Option State) (m : ℕ)
      → stood ≡ first_state (table_of (part (room_place (n - 1)) (room_place (n - 1) + room_words - room_place (n - 1)) ws)) → m ≡ link_metric s.kind s.metric stood
      → Meets (Told (Metric m)) (lift g n (act n s LinkMetric)) ws ws []
  unfolding act link_metric_of
  measures lo hi s stood m f e =
      asks ws n (act n s LinkMetric) (Told (Metric m))
      (ap (λ (x : ℕ). Told (Metric x)) (e ∙ ap (link_metric s.kind s.metric) (f ∙ ap first_state (room-of ws n lo hi)))) refl refl refl

  -- flags of the next hello
  module _ (s : Circuit) (level : ℕ) where
    pub flags-off : has_level s.levels level ≡ false → lift g n (refuse [] NoCircuit) ≡ lift g n (next_hello n s level)
    unfolding lift next_hello
    flags-off e = rw e refl

    pub flags : (i : ℕ) (f : Flags) → has_level s.levels level ≡ true → i ≡ t1_place s.kind (n - 1) level
        → f ≡ hello_flags (common_of (part 0 control_words ws)).timers.mode (get_or (common_of (part 0 control_words ws)).timers.t1s i no_t1)
        → Meets (Told (HelloFlags f.bits)) (lift g n (next_hello n s level)) ws ws []
    unfolding next_hello gateway_of
    flags i f has ie e =
        let p : f.bits ≡ flags_at n s level (common_of (part 0 control_words ws)).timers =
        ap (λ (x : Flags). x.bits) e
        ∙ ap (λ (j : ℕ). (hello_flags (common_of (part 0 control_words ws)).timers.mode (get_or (common_of (part 0 control_words ws)).timers.t1s j no_t1)).bits) ie in
        asks ws n (next_hello n s level) (Told (HelloFlags f.bits)) (rw has (ap (λ (x : ℕ). Told (HelloFlags x)) p)) (rw has refl) (rw has refl) (rw has refl)

-- the stage of a call on a circuit is the call's own definition
module _ (g : Gateway) (n : ℕ) (s : Circuit) where
  pub csnp-is : (level : ℕ) → lift g n (csnp_complete n s level) ≡ lift g n (act n s (CsnpComplete level))
  unfolding lift act
  csnp-is level = refl

  pub flags-is : (level : ℕ) → lift g n (next_hello n s level) ≡ lift g n (act n s (NextHello level))
  unfolding lift act
  flags-is level = refl

  pub look_is : (k : Key) → lift g n (look_up s k) ≡ lift g n (act n s (LookUp k))
  unfolding lift act
  look_is k = refl

-- ---- the calls that name no circuit

none-length : {A : Type 0} (l : List A) → length l ≡ 0 → none_of l ≡ true
unfolding none_of
none-length [] e = refl
none-length (x ∷ l) e = absurd (omega arith)

some-length : {A : Type 0} (l : List A) → 0 < length l → none_of l ≡ false
unfolding none_of
some-length [] e = absurd (omega arith)
some-length (x ∷ l) e = refl

module _ (ws : List ℕ) where
  abbrev gw : Gateway
  gw = gateway_of ws

  abbrev cs : Common
  cs = common_of (part 0 control_words ws)

  -- tick
  module _ (clock : ℕ) where
    pub tick-none : (k : ℕ) → k ≡ count_of (part 0 control_words ws) → k ≡ 0 → Meets quiet (step gw (Over (Tick clock))) ws ws []
    unfolding step judge tick_of carry gateway_of
    tick-none k e z =
        rw (none-length cs.circuits (circuits-length (part 0 control_words ws) ∙ sym e ∙ z)) (record { answer = refl; reply = refl; next = refl; kept = λ x y. refl })

    module _ (k : ℕ) (ke : k ≡ count_of (part 0 control_words ws)) (some : 0 < k) where
      is_some : none_of cs.circuits ≡ false
      is_some = some-length cs.circuits (omega (arith, circuits-length (part 0 control_words ws)))

      pub tick-back : (c : ℕ) → c ≡ cs.clock → clock < c → Meets (Refused ClockBack) (step gw (Over (Tick clock))) ws ws []
      unfolding step judge tick_of carry gateway_of
      tick-back c e lt =
          rw (is_some, lt-ltb clock cs.clock (rw (← e) lt)) (record { answer = refl; reply = refl; next = refl; kept = λ x y. refl })

      pub tick-took : (c : ℕ) (ws' : List ℕ) (a : Answer) → c ≡ cs.clock → c ≤ clock → SweepsAll clock ws ws' a
          → Meets a (step gw (Over (Tick clock))) ws ws' []
      unfolding step judge tick_of carry
      tick-took c ws' a e le h =
          let s : none_of gw.common.circuits ≡ false = rw (← common-at ws) is_some in
          let w : gw.common.clock ≤ clock = rw (← common-at ws, ← e) le in
          rw (s, le-ltb clock gw.common.clock w)
          (record {
            answer = h.answer;
            reply = refl;
            next = h.next;
            kept = λ x z. absurd (let y : ◌≡◌ {A = ℕ} 0 1 = cc (h.answer, z) in omega arith);
          })

  -- the rooms first, and then the control words put back
  pub swept_all : (clock : ℕ) (ws1 u : List ℕ) (lost : List Bool) (hellos : Hellos) (o : TimerOutcome) → length ws1 ≡ own_words → length u ≡ control_words
      → lost ≡ map (lapsed clock) gw.rooms → gateway_of ws1 ≡ with_rooms gw (map (swept_room clock) gw.rooms)
      → CommonTicks clock (part 0 control_words ws1) u o hellos → SweepsAll clock ws (put_mid 0 control_words ws1 u) (Ticked lost hellos (timers_answer o))
  swept_all clock ws1 u lost hellos o l1 lu m r h =
      let c1 : common_of (part 0 control_words ws1) ≡ gw.common = common-at ws1 ∙ ap (λ (x : Gateway). x.common) r in
      let hc = subst (λ (x : Common). common_of u ≡ ticked_common clock x) c1 h.common in
      let ho = subst (λ (x : Common). o ≡ ordered (to_t3 x.lengths clock) x.timers) c1 h.outcome in
      let hh = subst (λ (x : Common). hellos ≡ tick_hellos x.lengths clock x.timers) c1 h.hellos in
      record {
        answer = λ i. Ticked (m i) (hh i) (timers_answer (ho i));
        next = common-put ws1 u l1 lu ∙ ap (λ (x : Gateway). with_common x (common_of u)) r ∙ ap (with_common (with_rooms gw (map (swept_room clock) gw.rooms))) hc;
      }

  -- database complete
  module _ (level : ℕ) (l : Levels) (le : l ≡ enabled_levels cs.circuits) where
    abbrev call : Call
    call = Over (DatabaseComplete level)

    pub database-off : has_level l level ≡ false → Meets (Refused NoCircuit) (step gw call) ws ws []
    unfolding step judge database_of carry gateway_of
    database-off e = rw (← le, e) (record { answer = refl; reply = refl; next = refl; kept = λ x y. refl })

    module _ (on : has_level l level ≡ true) where
      judged : (d : Judged) → cond (is_running gw.common.timers.mode) (RefusedCall NotRestarting) (Tell (settled_by (notice_t2s (only_level level)) gw.common) (Told (notice_of (notice_t2s (only_level level)) gw.common))) ≡ d
          → step gw call ≡ carry gw d
      unfolding step judge database_of
      judged d e =
          let h : has_level (enabled_levels gw.common.circuits) level ≡ true = rw (← common-at ws, ← le) on in
          ap (carry gw) (rw h e)

      pub database-outside : is_running cs.timers.mode ≡ true → Meets (Refused NotRestarting) (step gw call) ws ws []
      unfolding carry
      database-outside m =
          let q : is_running gw.common.timers.mode ≡ true = rw (← common-at ws) m in
          along (sym (judged (RefusedCall NotRestarting) (rw q)))
          (record { answer = refl; reply = refl; next = refl; kept = λ x y. refl })

      pub database-taken : is_running cs.timers.mode ≡ false → (n : Levels) → n ≡ only_level level → (u : List ℕ) → length ws ≡ own_words → length u ≡ control_words
          → (o : TimerOutcome) → CommonSettles (notice_t2s n) (part 0 control_words ws) u o → Meets (Told (Noticed (timers_answer o))) (step gw call) ws (put_mid 0 control_words ws u) []
      unfolding carry
      database-taken m n ne u len lu o h =
          let f : Timers → Timers = notice_t2s (only_level level) in
          let k : CommonSettles f (part 0 control_words ws) u o = subst (λ (x : Levels). CommonSettles (notice_t2s x) (part 0 control_words ws) u o) ne h in
          let next = subst (λ (x : Common). common_of u ≡ settled_by f x) (common-at ws) k.common in
          let out = subst (λ (x : Common). Noticed (timers_answer o) ≡ notice_of f x) (common-at ws) (ap (λ (x : TimerOutcome). Noticed (timers_answer x)) k.outcome) in
          let q : is_running gw.common.timers.mode ≡ false = rw (← common-at ws) m in
          along (sym (judged (Tell (settled_by f gw.common) (Told (notice_of f gw.common))) (rw q)))
          (record {
            answer = ap Told out;
            reply = refl;
            next = common-put ws u len lu ∙ ap (with_common gw) next;
            kept = λ x z. absurd (let y : ◌≡◌ {A = ℕ} 0 1 = cc in omega arith);
          })

  -- the T1s that run
  pub waits : (k : ℕ) (low : Option ℕ) → k ≡ count_runs cs.timers.t1s → low ≡ lowest_runs cs.timers.t1s → Meets (Told (Waits k (some_waits low) (lowest_no low))) (step gw (Over Waiting)) ws ws []
  unfolding step judge carry gateway_of
  waits k low e f = record { answer = λ i. Told (Waits (e i) (some_waits (f i)) (lowest_no (f i))); reply = refl; next = refl; kept = λ x y. refl }

pub lapsed-at : (ws : List ℕ) (clock i : ℕ) → i < circuits → (any : Bool) (t : List ℕ) → Sweeps (expired_by clock) (table_of (part (room_place i) (room_place i + room_words - room_place i) ws)) (table_of t) any
    → length ws ≡ own_words → length t ≡ room_place i + room_words - room_place i
    → (any ≡ lapsed clock (get_or (gateway_of ws).rooms i no_room))
    × (gateway_of (put_mid (room_place i) (room_place i + room_words - room_place i) ws t) ≡ with_rooms (gateway_of ws) (set (gateway_of ws).rooms i (swept_room clock (get_or (gateway_of ws).rooms i no_room))))
lapsed-at ws clock i lt any t s len lt64 =
    let e = room-at ws i lt in (
      s.any ∙ ap (any_expired clock) e,
      room-put ws t len i lt lt64 ∙ ap (λ (x : List Slot). with_rooms (gateway_of ws) (set (gateway_of ws).rooms i (record { slots = x }))) (s.left ∙ ap (expired clock) e),
    )

pub length-bits : (m : ℕ) → length (lost_bits m) ≡ circuits
unfolding bits_of
length-bits m = refl

-- ---- a list gathered beside another, and beside one that is changed in place

module _ {A B : Type 0} (d : A) (p : A → B) (m : List B) (t : List A) (i : ℕ) where
  pub copy_step : (x : B) → i < length m → i < length t → x ≡ p (get_or t i d)
      → take (i + 1) (set m i x) ++ map p (drop (i + 1) t) ≡ take i m ++ map p (drop i t)
  copy_step x lm lt e =
      rw (e, add-one i, take-suc-set m i (p (get_or t i d)) lm, drop-cons t i d lt)
      (append_snoc (take i m) (p (get_or t i d)) (map p (drop (suc i) t)))

  pub gather-step : (x : B) (v : A) → i < length m → i < length t → x ≡ p (get_or t i d)
      → take (i + 1) (set m i x) ++ map p (drop (i + 1) (set t i v)) ≡ take i m ++ map p (drop i t)
  gather-step x v lm lt e = rw (drop-set-lt (i + 1) t i v (omega arith)) (copy_step x lm lt e)

pub gather-end : {A B : Type 0} (p : A → B) (m : List B) (t : List A) (i : ℕ) → length m ≤ i → length t ≤ i → m ≡ take i m ++ map p (drop i t)
gather-end p m t i lm lt = rw (take_all i m lm, drop_of_length-le t lt) (sym (append-nil m))
