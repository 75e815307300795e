-- What replies of Rattle say: in a report notes, contents, cause, orders, how many frames were lost and how many contents are given up;
-- to a pull an octet; to a call for the next frame the frame.
use Rattle.std.specs.Prelude.{◌≡◌, ℕ, List, [], take, Some, None}
use Rattle.std.specs.Option.{option_copied}
use Rattle.lapd_frame.specs.ShortLists.{listed}
use Rattle.lapd_frame.specs.declared.refusals.Refusal.{Refusal}
use Rattle.lapd_frame.specs.declared.short_lists.ShortList.TheVariants as short
use Rattle.lapd_frame.specs.declared.timers.Order.{Order}
use Rattle.lapd_frame.specs.declared.timers.Timer.{Timer}
use Rattle.lapd_line.specs.Reports.{report_told}
use Rattle.lapd_line.specs.declared.pulled.Pulled.{Pulled}
use Rattle.lapd_line.specs.declared.reports.Report.{Report}
use Rattle.lapd_card.specs.Reply as of_octets
use Rattle.lapd_card.specs.declared.replies.Reply.TheVariants as octets
use Rattle.model_card.specs.ports.Port as port
use Rattle.model_line.specs.Event.{told, refused, gave}
use Rattle.laws_promises.specs.FrameReply as of_frames
use Rattle.laws_promises.specs.TimedReply as of_timed
use Rattle.laws_promises.specs.declared.frame_replies.FrameReply.{FrameReply}
use Rattle.laws_promises.specs.declared.frame_replies.FrameReply.TheVariants as frames
use Rattle.laws_promises.specs.declared.frame_replies.SentFrame.{SentFrame}
use Rattle.laws_promises.specs.declared.timed_replies.TimedReply.TheVariants as timed

pub record RepliesMeanThis : Type 0 where
  pub report : (r : Report) → report_told r ≡ record { notes = listed r.notes; contents = option_copied r.delivered; cause = r.cause; orders = listed r.orders; lost = r.lost; given_up = r.given_up; given_up_16 = r.given_up_16 }
  pub none : listed {T = Order} short.None ≡ []
  pub one : (items : List Order) → listed (short.One items) ≡ items
  pub two : (items : List Order) → listed (short.Two items) ≡ items
  pub three : (items : List Order) → listed (short.Three items) ≡ items
  pub four : (items : List Order) → listed (short.Four items) ≡ items
  -- Of a card of octets,
  pub reported : (r : Report) → of_octets.answer_of (octets.Report r) ≡ port.told (report_told r)
  pub refused_octets : (why : Refusal) → of_octets.answer_of (octets.Refused why) ≡ port.refused why
  pub pulled : (p : Pulled) → of_octets.answer_of (octets.Pulled p) ≡ port.pulled p.octet p.begun (listed p.orders)
  -- of a card of frames,
  pub reported_frames : (r : Report) → of_frames.answer_of (frames.Report r) ≡ told (report_told r)
  pub refused_frames : (why : Refusal) → of_frames.answer_of (frames.Refused why) ≡ refused why
  pub no_frame : of_frames.answer_of (frames.Next None) ≡ gave None
  pub frame : (f : SentFrame) → of_frames.answer_of (frames.Next (Some f)) ≡ gave (Some (record { octets = take f.next.length f.octets.now; orders = listed f.next.orders }))
  -- and of one with timers of its own.
  pub went : of_timed.answer_of timed.Went ≡ of_timed.went
  pub wrong_time : of_timed.answer_of timed.WrongTime ≡ of_timed.wrong_time
  pub none_due : of_timed.answer_of timed.NoneDue ≡ of_timed.none_due
  pub fell_due : (line : ℕ) (timer : Timer) (r : Report) → of_timed.answer_of (timed.FellDue line timer r) ≡ of_timed.fell_due timer (of_timed.answered line (told (report_told r)))
  pub answered : (line : ℕ) (r : FrameReply) → of_timed.answer_of (timed.At line r) ≡ of_timed.answered line (of_frames.answer_of r)
  pub timed_pull : (line : ℕ) (p : Pulled) → of_timed.answer_of (timed.Pulled line p) ≡ of_timed.pulled line p.octet p.begun (listed p.orders)
