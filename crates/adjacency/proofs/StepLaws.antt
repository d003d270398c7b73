-- The state step and refusal 8's excuses by cases: what holds whatever the other arguments are.
use mathlib.Core.Bool.{Bool, true, false, not, ◌&&◌}
use mathlib.Core.Path.{◌≡◌, refl}
use Rattle.hello.specs.declared.read.Hello.{Hello}
use Rattle.hello.specs.declared.read.Link.{Link}
use Rattle.hello.specs.declared.read.Link.TheVariants.{Lan, P2p}
use Rattle.hello.specs.declared.three_way.ThreeWay.{ThreeWay}
use Rattle.hello.specs.declared.three_way.ThreeWayState.TheVariants.{Initializing, Down}
use Rattle.adjacency.specs.Record.{is_up}
use Rattle.adjacency.specs.Step.{requests, wrong_of, wrong_neighbor, p2p_step, three_way_step, link_step, excused}
use Rattle.adjacency.specs.declared.record.Phase.{Phase}
use Rattle.adjacency.specs.declared.record.Phase.TheVariants.{Gone, Init, Up}
use Rattle.adjacency.specs.declared.step.Here.{Here}
use Rattle.adjacency.specs.declared.step.Wrong.{Wrong}

pub step_down : (p : Phase) → Init ≡ p2p_step p Down
step_down Gone = refl
step_down Init = refl
step_down Up = refl

pub step-initializing : (p : Phase) → Up ≡ p2p_step p Initializing
step-initializing Gone = refl
step-initializing Init = refl
step-initializing Up = refl

-- an UP record: excused by RR alone
pub excused-up : (request system restarting : Bool) → request ≡ excused request true system restarting
excused-up true system restarting = refl
excused-up false true restarting = refl
excused-up false false true = refl
excused-up false false false = refl

-- another's System ID, and the record is not UP
pub excused-named : (request restarting : Bool) → false ≡ excused request false true restarting
excused-named true restarting = refl
excused-named false restarting = refl

-- only the circuit ID is wrong, and the record is not UP
pub excused-circuit : (request restarting : Bool) → restarting ≡ excused request false false restarting
excused-circuit true true = refl
excused-circuit true false = refl
excused-circuit false true = refl
excused-circuit false false = refl

-- refusal 8 by what is wrong of the frame's identifiers; on a LAN nothing is
wrong-on : (here : Here) (p : Phase) (h : Hello) (l : Link)
    → wrong_neighbor here p h l ≡ ((wrong_of here l).id && not (excused (requests h.restart) (is_up p) (wrong_of here l).system here.restarting))
unfolding wrong_neighbor
wrong-on here p h (Lan level priority listed) = refl
wrong-on here p h (P2p t) = refl

pub wrong-by : (here : Here) (w : Wrong) (p : Phase) (h : Hello) → w ≡ wrong_of here h.link
    → wrong_neighbor here p h h.link ≡ (w.id && not (excused (requests h.restart) (is_up p) w.system here.restarting))
wrong-by here w p h e = rw e (wrong-on here p h h.link)

-- the step on P2P, by the same
pub three-way-by : (here : Here) (w : Wrong) (p : Phase) (l : Link) (t : ThreeWay) → w ≡ wrong_of here l → l ≡ P2p t
    → three_way_step here.restarting w.circuit p t.state ≡ link_step here p l
unfolding link_step
three-way-by here w p l t e q = rw (e, q) refl
