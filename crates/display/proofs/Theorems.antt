-- What is claimed of orders and of the display's end.
use Rattle.display.specs.Claims.{ProfileIs, WrittenReads, AcceptedWritten, FramesJudged, Limits, ReadsGive, TakesGive, WritesGive}
use Rattle.display.specs.Claims.{ShownLast, ShownExamples, RefusedKeeps, SilentKeeps, RefusedShort, AnswerReads, RepeatAnswered, NewTaken, TakesInOrder}
use Rattle.display.specs.Claims.{OthersPass, TakenOnce, ShowsOrdered, Printed}
use Rattle.display.proofs.Orders as orders
use Rattle.display.proofs.Numbers as numbers
use Rattle.display.proofs.Places as places
use Rattle.display.proofs.Served as served
use Rattle.display.proofs.Repeats as repeats
use Rattle.display.proofs.Shows as shows
use Rattle.display.proofs.Examples as examples

-- the profile is the messages of orders
pub profile_is : ProfileIs
profile_is = orders.profile_is

-- written reads back
pub written-reads : WrittenReads
written-reads = orders.written-reads

-- accepted is the writer's own frame
pub accepted-written : AcceptedWritten
accepted-written = orders.accepted-written

-- of the frames of PCS those of the profile, and 21
pub frames-judged : FramesJudged
frames-judged = orders.frames-judged

-- how large a value may be
pub limits : Limits
limits = orders.limits

-- which numbers a read, a take and a write are refused with
pub reads_give : ReadsGive
reads_give = numbers.reads_give

pub takes_give : TakesGive
takes_give = numbers.takes_give

pub writes_give : WritesGive
writes_give = orders.writes_give

-- the last three of the digits, spaces on the left
pub shown-last : ShownLast
shown-last = places.shown-last

pub shown_examples : ShownExamples
shown_examples = places.shown_examples

-- in which order it is refused, and what is left in the store
pub takes_in_order : TakesInOrder
takes_in_order = served.takes_in_order

-- every refusal leaves the display as it was
pub refused_keeps : RefusedKeeps
refused_keeps = served.refused_keeps

-- nor does a call without an answer touch the memory
pub silent-keeps : SilentKeeps
silent-keeps = served.silent-keeps

-- 2 for an order to this display alone
pub refused_short : RefusedShort
refused_short = served.refused_short

-- the answer reads back
pub answer_reads : AnswerReads
answer_reads = served.answer_reads

-- a repeat is answered, and not shown again
pub repeat_answered : RepeatAnswered
repeat_answered = served.repeat_answered

-- any other is taken, and shown
pub new_taken : NewTaken
new_taken = served.new_taken

-- frames for others change nothing
pub others_pass : OthersPass
others_pass = repeats.others_pass

-- taking twice is taking once
pub taken_once : TakenOnce
taken_once = repeats.taken_once

-- what a fresh display shows was ordered
pub shows_ordered : ShowsOrdered
shows_ordered = shows.shows_ordered

-- document 000's second example
pub printed : Printed
printed = examples.printed
