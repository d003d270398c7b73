-- What a frame that was accepted orders (document 01, "Marks and holding time" and "Timers while Restarting"; document 02, W-201 and W-202), of the words
-- as the record's change left them.
use Rattle.std.specs.Prelude.{ℕ, ◌≡◌, List, Option}
use Rattle.hello.specs.declared.read.Hello.{Hello}
use Rattle.adjacency.specs.Keys.{level_in}
use Rattle.adjacency.specs.declared.marks.Line.{Line}
use Rattle.settings.specs.declared.circuit.Circuit.{Circuit}
use Rattle.timer_parts.specs.declared.heard.Heard.{Heard}
use Rattle.control.specs.Common.{Common, with_timers}
use Rattle.model.specs.declared.answers.Change.{Change}
use Rattle.model.specs.declared.answers.Orders.{Orders}
use Rattle.model.specs.Gateway.{with_common, room_of}
use Rattle.model.specs.Receive.{said_of, timers_after, orders_of}
use Rattle.own_words.specs.Words.{gateway_of, circuit_held}
use Rattle.restart_tlv.specs.declared.writer.Ack.{Ack}

-- the common part after a frame on circuit n that changed its record so
abbrev pub common_after : ℕ → Circuit → Hello → Change → Common → Common
common_after n s h x c = with_timers (timers_after n s h x c) c

-- what is settled before the record is looked for: what the frame says to the timers, and its level, which is its key's
pub record Settled (n : ℕ) (h : Hello) (said : Heard) (change : Change) (ws : List ℕ) : Type 0 where
  pub says : said ≡ said_of (gateway_of ws).common (circuit_held ws n) h
  pub level : change.level ≡ level_in h.link

pub record GivesOrders (n : ℕ) (s : Circuit) (h : Hello) (reply : Option (Ack × ℕ)) (line : Line) (change : Change) (ws ws' : List ℕ) (o : Orders) : Type 0 where
  pub orders : o ≡ orders_of n s h reply line change (gateway_of ws).common (room_of (gateway_of ws) n)
  pub next : gateway_of ws' ≡ with_common (gateway_of ws) (common_after n s h change (gateway_of ws).common)
