-- Where the loop stands, and what each of its steps comes to: a step of `Run` (program_stream).
use Rattle.std.specs.Prelude.{ℕ, ◌-◌, ◌≤◌, ◌≡◌, Bool, true, false, List, [], ◌++◌, length, take, drop, Option, Some, None, Result, Ok, Err}
use Rattle.std.specs.declared.io.Error.{Error}
use Rattle.program_commands.specs.Command.{longest_line}
use Rattle.program_stream.specs.Steps.{Answers, Waits}
use Rattle.program_stream.specs.Output.{program_output}
use Rattle.program_stream.specs.Run.{joined, Sofar}
use Rattle.filter.specs.World.{Given, Taken, Erred, Gives}
use Rattle.filter.specs.declared.State.{State}
use Rattle.filter.specs.declared.Next.{Next}
use Rattle.filter.specs.declared.Next.TheVariants as next
use Rattle.filter.specs.declared.Due.{Due}
use Rattle.filter.specs.declared.Failure.{Failure}

-- the bytes of buf from a up to e
abbrev pub part : ℕ → ℕ → List ℕ → List ℕ
part a e buf = take (e - a) (drop a buf)

-- the bytes that have been read and are not yet answered
abbrev pub unanswered : State → List ℕ → List ℕ
unanswered s buf = part s.at s.end buf

pub record Placed (s : State) (buf : List ℕ) : Type 0 where
  pub order : s.at ≤ s.end
  pub within : s.end ≤ length buf

-- the state in which what comes next begins, and whether that is a read
abbrev pub state : Next → State
state (next.Answer s) = s
state (next.Read s) = s

abbrev pub reads : Next → Bool
reads (next.Answer s) = false
reads (next.Read s) = true

-- `answer`: out'[..made] are the answers to those bytes, as far as they can be known; no more is due where a read comes next
pub record Answered (s : State) (buf t : List ℕ) (r : Due) (buf' t' out' : List ℕ) : Type 0 where
  pub says : Answers t s.skip (unanswered s buf) (take r.made out') t' (state r.next).skip (unanswered (state r.next) buf')
  pub waits : reads r.next ≡ true → Waits (unanswered (state r.next) buf')
  pub room : reads r.next ≡ true → (state r.next).end ≤ longest_line
  pub fits : r.made ≤ length out'
  pub placed : Placed (state r.next) buf'

-- `read_some`: n bytes have come, or none since the input has ended, or none since there was an error
abbrev pub ReadSome : Result (Option ℕ) Error → List ℕ → List ℕ → Type 0
ReadSome (Ok (Some n)) buf buf' = (n ≤ length buf) × Gives (take n buf')
ReadSome (Ok None) buf buf' = Gives []
ReadSome (Err e) buf buf' = Erred × Gives []

-- what stands in buf' from the old end to the new one has come behind those bytes
pub record Came (s : State) (buf : List ℕ) (r : State) (buf' : List ℕ) : Type 0 where
  pub says : unanswered r buf' ≡ unanswered s buf ++ part s.end r.end buf'
  pub skip : r.skip ≡ s.skip
  pub gives : Gives (part s.end r.end buf')
  pub placed : Placed r buf'

-- `read_more`: bytes have come, or none at the end of the input, or none where there was an error
abbrev pub Read : State → List ℕ → Result (Option State) Error → List ℕ → Type 0
Read s buf (Ok (Some r)) buf' = Came s buf r buf'
Read s buf (Ok None) buf' = Came s buf s buf'
Read s buf (Err e) buf' = Erred × Came s buf s buf'

-- at every turn: reads have given `pieces`, writes have taken `out`, and the program has run so far on these
pub record Stands (s : State) (buf t : List ℕ) : Type 0 where
  pub pieces : List (List ℕ)
  pub out : List ℕ
  pub given : Given pieces
  pub taken : Taken out
  pub sofar : Sofar pieces out t s.skip (unanswered s buf)
  pub placed : Placed s buf

-- `run`: for pieces that reads have given, writes have taken all that is due; or the beginning of it, if there was an error. That these are all the
-- pieces is the loop's invariant, and not said here
pub data Ran : Bool → Type 0 where
  whole : (pieces : List (List ℕ)) → Given pieces → Taken (program_output (joined pieces)) → Ran true
  stopped : (pieces : List (List ℕ)) (v u : List ℕ) → Erred → Given pieces → Taken v → v ++ u ≡ program_output (joined pieces) → Ran false

-- `answer_input`: the run up to the end of the input, or up to an error
abbrev pub Ends : Result State Failure → List ℕ → List ℕ → Type 0
Ends (Ok s) buf t = Stands s buf t × Waits (unanswered s buf)
Ends (Err e) buf t = Ran false
