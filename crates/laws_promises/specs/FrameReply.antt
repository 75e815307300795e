-- What the answers of a card of frames say, without references.
use Rattle.std.specs.Prelude.{option_map}
use Rattle.lapd_line.specs.Reports.{report_told, next_in}
use Rattle.model_line.specs.Event.{Answer, NextFrame, told, refused, gave}
use Rattle.laws_promises.specs.declared.frame_replies.FrameReply as reply
use Rattle.laws_promises.specs.declared.frame_replies.SentFrame.{SentFrame}

-- The next frame, which lies in front of its octets.
abbrev pub sent : SentFrame → NextFrame
sent frame = next_in frame.octets.now frame.next

abbrev pub answer_of : reply.FrameReply → Answer
answer_of (reply.TheVariants.Report r) = told (report_told r)
answer_of (reply.TheVariants.Refused why) = refused why
answer_of (reply.TheVariants.Next frame) = gave (option_map sent frame)
