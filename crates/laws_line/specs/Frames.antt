-- How many frames an answer tells as lost, since they found no room to wait; and how many contents as given up.
use Rattle.std.specs.Prelude.{ℕ}
use Rattle.lapd_frame.specs.declared.services.Service.{Service}
use Rattle.lapd_frame.specs.declared.services.Service.TheVariants.{Call, Packet}
use Rattle.model_line.specs.Event.{Answer, told}

abbrev pub lost_in : Answer → ℕ
lost_in (told t) = t.lost
lost_in other = 0

-- Of the link of this service.
abbrev pub given_up_in : Service → Answer → ℕ
given_up_in Call (told t) = t.given_up
given_up_in Packet (told t) = t.given_up_16
given_up_in service other = 0
