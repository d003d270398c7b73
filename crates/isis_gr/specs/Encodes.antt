-- What the exported calls are to do: the number that goes out is that of the step's answer, and memory and reply buffer are the step's.
use Rattle.std.specs.Prelude.{ℕ, ◌≡◌, List, []}
use Rattle.model.specs.Step.{Call, step}
use Rattle.gateway.specs.Whole.{whole_of, DoesWith}
use Rattle.isis_gr.specs.Words.{answer_no, changed_no, found_words}
use Rattle.isis_gr.specs.declared.answers.ReceivedWords.{ReceivedWords}

-- The number w of the call c on the words ws and the octets fs of unfinished frames: reply buffer and gateway at exit are the step's, and a refusal leaves
-- them as crate gateway's call does.
pub record EncodesWith (w : ℕ) (c : Call) (ws fs ws' fs' b' : List ℕ) : Type 0 where
  pub number : w ≡ answer_no (step (whole_of ws fs) c).answer
  pub does : DoesWith c (step (whole_of ws fs) c).answer ws fs ws' fs' b'

-- The same of a frame, whose second word tells what became of its record.
pub record EncodesFrameWith (w : ReceivedWords) (c : Call) (ws fs ws' fs' b' : List ℕ) : Type 0 where
  pub encodes : EncodesWith w.answer c ws fs ws' fs' b'
  pub change : w.change ≡ changed_no (step (whole_of ws fs) c).answer

-- The same of a look up, which writes a record's two words where it found one, and else leaves them as they were.
pub record EncodesFoundWith (w : ℕ) (c : Call) (ws fs d d' : List ℕ) : Type 0 where
  pub encodes : EncodesWith w c ws fs ws fs []
  pub found : d' ≡ found_words (step (whole_of ws fs) c).answer d

-- calls that take no octets: the same, whatever they are
abbrev pub Encodes : ℕ → Call → List ℕ → List ℕ → List ℕ → Type 0
Encodes w c ws ws' b' = (fs : List ℕ) → EncodesWith w c ws fs ws' fs b'

abbrev pub EncodesFrame : ReceivedWords → Call → List ℕ → List ℕ → List ℕ → Type 0
EncodesFrame w c ws ws' b' = (fs : List ℕ) → EncodesFrameWith w c ws fs ws' fs b'

abbrev pub EncodesFound : ℕ → Call → List ℕ → List ℕ → List ℕ → Type 0
EncodesFound w c ws d d' = (fs : List ℕ) → EncodesFoundWith w c ws fs d d'
