-- What stays true of a gateway, whatever calls it gets: sentences of documents 01 and 02, and the claim that each holds after every list of calls.
use Rattle.std.specs.Prelude.{ℕ, suc, ◌+◌, ◌≤◌, ◌<◌, ◌≡◌, Bool, true, false, ◌≢◌, List, [], ◌∷◌, length, get_or, Option, Some, None, Ok}
use Rattle.basics.specs.Octets.{octet, big}
use Rattle.basics.specs.Mask.{circuits, place_bits}
use Rattle.hello.specs.Hello.{hello_read}
use Rattle.basics.specs.declared.kind.CircuitKind.{CircuitKind}
use Rattle.basics.specs.declared.kind.CircuitKind.TheVariants.{Lan, P2p}
use Rattle.hello.specs.declared.read.Hello.{Hello}
use Rattle.adjacency.specs.Record.{expiry_of}
use Rattle.adjacency.specs.declared.record.Key.{Key}
use Rattle.adjacency.specs.declared.record.Mark.TheVariants.{Clear}
use Rattle.adjacency.specs.declared.record.Record.{Record}
use Rattle.adjacency.specs.declared.record.State.{State}
use Rattle.adjacency.specs.declared.record.State.TheVariants.{Init, Up}
use Rattle.adjacency.specs.declared.place.Slot.{Slot}
use Rattle.adjacency.specs.declared.place.Slot.TheVariants.{Free, Held, Closed}
use Rattle.room.specs.Gather.{gather}
use Rattle.chunks.specs.Chunks.{Unfinished, NoFrame, Frame, most_octets}
use Rattle.basics.specs.Levels.{Level, is_on, has_level}
use Rattle.basics.specs.declared.levels.Levels.{Levels}
use Rattle.timer_parts.specs.T2.{t2_at, any_t2}
use Rattle.timer_parts.specs.declared.t1.T1.{T1}
use Rattle.timer_parts.specs.declared.t3.T3.TheVariants.{Idle, Runs}
use Rattle.timers.specs.Timers.{Timers, any_runs, no_t1}
use Rattle.timers.specs.Hellos.{Hellos}
use Rattle.settings.specs.Mode.{is_running}
use Rattle.settings.specs.declared.mode.Mode.TheVariants.{Running, Starting}
use Rattle.settings.specs.declared.circuit.Circuit.{Circuit}
use Rattle.settings.specs.declared.setup.Settings.{Settings}
use Rattle.settings.specs.Settings.{circuits_of, enabled_levels}
use Rattle.settings.specs.Serving.{serving, all_t1s}
use Rattle.control.specs.Common.{Common, circuit_of}
use Rattle.adjacency.specs.Keys.{key_in}
use Rattle.model.specs.Answers.{Received, Ticked, FrameAnswer, TimersAnswer}
use Rattle.model.specs.Gateway.{Gateway, Started, setup, room_of, record_at, unfinished_on}
use Rattle.model.specs.Step.{Call, At, Over, Hand, Receive, Tick, Chunk, End, Outcome, step}
use Rattle.model.specs.Trace.{after}

-- ---- the lists

-- a lent frame or chunk is octets
abbrev pub Octets : List ℕ → Type 0
Octets s = (i : ℕ) → octet s i < 256

-- .. of a call that lends one, and of every call of a list
pub record Fits (c : Call) : Type 0 where
  pub frame : (n mac : ℕ) (frame buffer : List ℕ) → c ≡ At n (Receive mac frame buffer) → Octets frame
  pub chunk : (n : ℕ) (octets : List ℕ) → c ≡ Hand n (Chunk octets) → Octets octets

pub data AllFit : List Call → Type 0 where
  none : AllFit []
  more : {c : Call} {cs : List Call} → Fits c → AllFit cs → AllFit (c ∷ cs)

-- ---- document 02, W-205: "Each circuit has its own unfinished frame"; 14, "more than 1,500 octets joined"

abbrev pub FrameFits : Unfinished → Type 0
FrameFits NoFrame = 0 ≤ 0
FrameFits (Frame mac octets) = (length octets ≤ most_octets) × Octets octets

pub record FramesFit (g : Gateway) : Type 0 where
  pub one : length g.unfinished ≡ circuits
  pub fit : (n : ℕ) → FrameFits (unfinished_on g n)

-- the frame that a call gives to receive, with its circuit and source MAC: a receive its own, an end the unfinished one
pub data Gives (g : Gateway) : Call → ℕ → ℕ → List ℕ → Type 0 where
  whole : {n mac : ℕ} {frame buffer : List ℕ} → Gives g (At n (Receive mac frame buffer)) n mac frame
  ended : {n mac : ℕ} {frame buffer : List ℕ} → unfinished_on g n ≡ Frame mac frame → Gives g (Hand n (End buffer)) n mac frame

-- ---- records

-- each record in a room has the property P
pub data Each (P : Record → Type 0) : List Slot → Type 0 where
  end : Each P []
  free : {t : List Slot} → Each P t → Each P (Free ∷ t)
  held : {r : Record} {t : List Slot} → P r → Each P t → Each P (Held r ∷ t)
  closed : {t : List Slot} → Each P t → Each P (Closed ∷ t)

-- how many records a room holds
unfoldable pub records : List Slot → ℕ
records [] = 0
records (Free ∷ t) = records t
records (Held r ∷ t) = suc (records t)
records (Closed ∷ t) = records t

-- ---- document 01, "Marks and holding time": "The reply is 11 octets: .. Remaining Time = expiry less clock (0 if no record stands)"

-- the time from the clock to the expiry of the record; 0 if none stands
abbrev pub Tells : Option State → ℕ → ℕ → Type 0
Tells None clock time = time ≡ 0
Tells (Some s) clock time = expiry_of s ≡ clock + time

-- A reply's Remaining Time stands in its octets 4 and 5, is at most 65,535, and is the true time to the expiry of the record of the key k on
-- circuit n afterwards.
pub record TrueTime (o : Outcome) (n : ℕ) (k : Key) (time : ℕ) : Type 0 where
  pub octets : big 2 o.reply 3 ≡ time
  pub fits : time ≤ 65535
  pub tells : Tells (record_at o.next n k) o.next.common.clock time

-- .. so of every frame that is replied to: s is the circuit's settings, h the hello read
pub record TrueReplies (g : Gateway) : Type 0 where
  pub time : (c : Call) (n mac : ℕ) (frame : List ℕ) (s : Circuit) (h : Hello) (f : FrameAnswer) → Gives g c n mac frame → Octets frame
      → circuit_of g.common n ≡ Some s → hello_read s.kind s.mac frame ≡ Ok h
      → (step g c).answer ≡ Received f → f.reply ≢ 0 → TrueTime (step g c) n (key_in s.kind mac h) f.time

-- ---- document 01, "Marks and holding time": "A tick removes each record with expiry at or below the clock"

-- the expiry of every record on every circuit is above the clock
pub record AboveClock (g : Gateway) : Type 0 where
  pub above : (n : ℕ) → Each (λ r. g.common.clock < expiry_of r.state) (room_of g n).slots

-- .. after every accepted tick
pub record TickSweeps (g : Gateway) : Type 0 where
  pub sweeps : (clock : ℕ) (lost : List Bool) (hellos : Hellos) (t : TimersAnswer) → (step g (Over (Tick clock))).answer ≡ Ticked lost hellos t
      → AboveClock (step g (Over (Tick clock))).next

-- ---- document 01, "What the gateway holds": "A LAN circuit has room for 16 records over both levels, a P2P circuit for 1."

abbrev pub room_for : CircuitKind → ℕ
room_for Lan = 16
room_for P2p = 1

-- a circuit never holds more records than its room, past the circuits there is none, and no two records have one key
pub record Bounded (g : Gateway) : Type 0 where
  pub within : (n : ℕ) (s : Circuit) → circuit_of g.common n ≡ Some s → records (room_of g n).slots ≤ room_for s.kind
  pub past : (n : ℕ) → circuit_of g.common n ≡ None → records (room_of g n).slots ≡ 0
  pub single : (n : ℕ) (k : Key) → length (gather k (room_of g n).slots) ≤ 1

-- ---- document 01, "What the gateway holds": "A LAN record is known by level, System ID and source MAC; a P2P record by System ID."

-- document 01, "Refusals by number", 7: "LAN level not enabled on the circuit". On P2P level and MAC say nothing, and are 0.
abbrev pub LevelAndMac : CircuitKind → Levels → Key → Type 0
LevelAndMac Lan l k = has_level l k.level ≡ true
LevelAndMac P2p l k = (k.level ≡ 0) × (k.mac ≡ 0)

-- .. "or source System ID is our own"
pub record KeyFits (own : ℕ) (s : Circuit) (k : Key) : Type 0 where
  pub system : k.system ≢ own
  pub rest : LevelAndMac s.kind s.levels k

pub record KeysFit (g : Gateway) : Type 0 where
  pub fit : (n : ℕ) (s : Circuit) → circuit_of g.common n ≡ Some s → Each (λ r. KeyFits g.common.system s r.key) (room_of g n).slots

-- ---- document 01, "Marks and holding time": "expiry = clock + Holding Time", "clock + configured time", "clock + Remaining Time", none above
-- 65,535; "A tick removes each record with expiry at or below the clock"

-- an expiry that two octets can tell
pub record Span (clock expiry : ℕ) : Type 0 where
  pub low : clock ≤ expiry
  pub high : expiry ≤ clock + 65535

pub record NearExpiries (g : Gateway) : Type 0 where
  pub near : (n : ℕ) → Each (λ r. Span g.common.clock (expiry_of r.state)) (room_of g n).slots

-- ---- document 02, W-203: a frame without the TLV "ends Suppressed, Restart and Planned"

-- where a record's last accepted frame had no Restart TLV, none is marked
abbrev pub Unmarked : State → Type 0
Unmarked (Init d) = d.last.tlv ≡ false → d.suppressed ≡ false
Unmarked (Up d m) = d.last.tlv ≡ false → (d.suppressed ≡ false) × (m ≡ Clear)

-- .. so that such a record, where it is UP, is advertised
pub record BareUnmarked (g : Gateway) : Type 0 where
  pub unmarked : (n : ℕ) → Each (λ r. Unmarked r.state) (room_of g n).slots

-- ---- document 01, "What the gateway holds": "Setup takes these": no other call does

pub record SetupSettings (s : Settings) (c : Common) : Type 0 where
  pub system : c.system ≡ s.system
  pub lengths : c.lengths ≡ s.lengths
  pub circuits : c.circuits ≡ circuits_of s

-- ---- document 01, "Timers while Restarting"; document 02, W-201

-- "When no T2 runs, T3 is cancelled .., all T1 stop (house) and the mode is Running.": in that mode no timer runs
pub record Quiet (t : Timers) : Type 0 where
  pub t1s : t.mode ≡ Running → any_runs t.t1s ≡ false
  pub t2s : t.mode ≡ Running → any_t2 t.t2s ≡ false
  pub t3 : t.mode ≡ Running → t.t3 ≡ Idle

-- .. and in the others some T2 runs, where there is a circuit
pub record Restarts (s : Settings) (t : Timers) : Type 0 where
  pub some : 0 < length (circuits_of s) → is_running t.mode ≡ false → any_t2 t.t2s ≡ true

-- document 02, W-201: in the mode Starting "T3 isn't used"
pub record NoT3 (t : Timers) : Type 0 where
  pub idle : t.mode ≡ Starting → t.t3 ≡ Idle

-- document 02, W-202: "Each LAN circuit now holds a T1, tries and acknowledgement per level", "P2P keeps one of each": there is a T1 in place i,
-- counted from 0
abbrev pub IsT1 : Settings → ℕ → Type 0
IsT1 s i = get_or (place_bits (all_t1s (serving (circuits_of s)))) i false ≡ true

-- "Setup .. starts T1 on each [circuit] .. T1 at its deadline: order the hello again and run from this clock, or stop at the Nth expiry"; document
-- 02, W-201: T1 "begins when a record there first becomes UP". Where a T1 runs it is one that there is, it expired fewer than N times, and its length
-- is all that it waits.
pub record T1Ends (s : Settings) (clock i tries deadline : ℕ) : Type 0 where
  pub there : IsT1 s i
  pub fewer : tries < s.lengths.tries
  pub due : deadline ≤ clock + s.lengths.t1

-- .. of the T1 in place i
abbrev pub T1Fits : Settings → ℕ → ℕ → T1 → Type 0
T1Fits s clock i t = t.runs ≡ true → T1Ends s clock i t.entry.tries t.entry.deadline

-- ".. T2 per enabled level ..": it runs for its length from setup on, and no call moves its deadline
pub record T2Ends (s : Settings) (k : Level) (deadline : ℕ) : Type 0 where
  pub enabled : is_on k (enabled_levels (circuits_of s)) ≡ true
  pub due : deadline ≡ s.clock + s.lengths.t2

-- ".. T3 at clock + 65,535": acknowledgements only lower it
abbrev pub t3_ends : Settings → ℕ
t3_ends s = s.clock + 65535

pub record SetupTimers (s : Settings) (clock : ℕ) (t : Timers) : Type 0 where
  -- which T1s there are (document 02, W-202), as setup gave them: no call changes it
  pub serving : t.serving ≡ serving (circuits_of s)
  pub t1s : (i : ℕ) → T1Fits s clock i (get_or t.t1s i no_t1)
  pub t2s : (k : Level) (deadline : ℕ) → (t2_at k t.t2s).timer ≡ Some deadline → T2Ends s k deadline
  pub t3 : (deadline : ℕ) → t.t3 ≡ Runs deadline → deadline ≤ t3_ends s

-- ---- from one call to the next

-- document 01, "Refusals by number": "10: tick: clock lower than the held clock". The mode Running has no end: setup alone gives Restarting or
-- Starting, and a call only ends them.
pub record Onward (c next : Common) : Type 0 where
  pub clock : c.clock ≤ next.clock
  pub mode : is_running next.timers.mode ≡ false → next.timers.mode ≡ c.timers.mode

-- ---- all of them

-- of a gateway that setup gave the settings s
pub record Invariant (s : Settings) (g : Gateway) : Type 0 where
  pub replies : TrueReplies g
  pub ticks : TickSweeps g
  pub rooms : Bounded g
  pub keys : KeysFit g
  pub expiries : NearExpiries g
  pub bare : BareUnmarked g
  pub frames : FramesFit g
  pub settings : SetupSettings s g.common
  pub quiet : Quiet g.common.timers
  pub restarts : Restarts s g.common.timers
  pub no-t3 : NoT3 g.common.timers
  pub timers : SetupTimers s g.common.clock g.common.timers
  pub onward : (c : Call) → Onward g.common (step g c).next.common

-- Any gateway that setup returned, in any mode, and any list of calls, refused ones included.
abbrev pub Invariants : Type 0
Invariants =
    (s : Settings) (g : Gateway) (hellos : Hellos) → setup s ≡ Started g hellos → (cs : List Call) → AllFit cs → Invariant s (after g cs)
