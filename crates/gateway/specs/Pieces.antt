-- What an end takes before receive (document 02, W-205), of the words: refusal 1 or 13, or the unfinished frame, which is dropped.
use Rattle.std.specs.Prelude.{ℕ, ◌-◌, ◌^◌, ◌<◌, ◌≤◌, ◌≡◌, true, List, Result, Ok, Err}
use Rattle.basics.specs.declared.refusal.Refusal.{Refusal}
use Rattle.basics.specs.Lists.{part}
use Rattle.model.specs.Step.{At, Hand, Receive, End, refused, step}
use Rattle.model.specs.Answers.{Refused as RefusedAnswer}
use Rattle.model.specs.Refusals.{drops}
use Rattle.own_words.specs.Words.{own_words}
use Rattle.gateway.specs.Whole.{frame_octets, whole_of}

-- its MAC, and where its octets start and end: the end is receive on these, of the words that are left
pub record TakesFrame (n : ℕ) (ws ws' : List ℕ) (mac start end : ℕ) : Type 0 where
  pub mac-fits : mac < 2 ^ 48
  pub low : start ≤ end
  pub high : end ≤ frame_octets
  pub own : part 0 own_words ws' ≡ part 0 own_words ws
  pub ends : (fs b : List ℕ) → step (whole_of ws fs) (Hand n (End b)) ≡ step (whole_of ws' fs) (At n (Receive mac (part start (end - start) fs) b))
  pub dropped : (fs b : List ℕ) (x : Refusal) → (step (whole_of ws fs) (Hand n (End b))).answer ≡ RefusedAnswer x → drops (Hand n (End b)) x ≡ true

abbrev pub Takes : ℕ → List ℕ → List ℕ → Result (ℕ × ℕ × ℕ) Refusal → Type 0
Takes n ws ws' (Err x) = (ws' ≡ ws) × ((fs b : List ℕ) → step (whole_of ws fs) (Hand n (End b)) ≡ refused (whole_of ws fs) b x)
Takes n ws ws' (Ok (mac, start, end)) = TakesFrame n ws ws' mac start end
