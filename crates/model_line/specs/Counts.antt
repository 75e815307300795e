-- What is counted of a line.
use Rattle.std.specs.Prelude.{ℕ, ◌+◌, max, nat_le, Bool, true, false, length, is_some, if◌then◌else◌}
use Rattle.model_bits.specs.Stream as stream
use Rattle.lapd_frame.specs.declared.refusals.Refusal.{Refusal}
use Rattle.lapd_frame.specs.declared.refusals.Refusal.TheVariants as refusals
use Rattle.model_link.specs.Rises as links
use Rattle.model_teis.specs.network.Machine as tei
use Rattle.model_line.specs.declared.config.Config.{Config}
use Rattle.model_line.specs.Event.{Event, hears, expiry, request, next, Answer, told, refused, gave}
use Rattle.model_line.specs.Line.{Line, is_terminal, terms_at, link_at, link_in}
use Rattle.model_line.specs.Stored.{sum_of_links}
use Rattle.model_line.specs.Expiry.{is_running}
use Rattle.model_line.specs.Effect.{Aim, at_link}
use Rattle.model_line.specs.Machine.{aim_of}

-- A test, counted.
abbrev pub one : Bool → ℕ
one b = if b then 1 else 0

-- What may be sent without anything else happening: management messages, with those of checks that are due, unit data, and what
-- each link may send.
abbrev pub may_send_at_link : Config → Line → ℕ → ℕ
may_send_at_link c l number = links.may_send (terms_at c number l) (link_at number l)

abbrev pub may_send : Config → Line → ℕ
may_send c l = tei.may_send l.management + length l.own.waiting + length l.units + sum_of_links c (may_send_at_link c l)

-- A frame is heard, or something is dropped in place of one.
abbrev pub is_frame : stream.Event → Bool
is_frame (stream.frame octets) = true
is_frame (stream.overlong head) = true
is_frame (stream.dropped cause) = false

abbrev pub hears_frame : Event → Bool
hears_frame (hears e) = is_frame e
hears_frame other = false

-- Those of four octets or more, as each with a control field of two octets is.
abbrev pub is_long_frame : stream.Event → Bool
is_long_frame (stream.frame octets) = nat_le 4 (length octets)
is_long_frame (stream.overlong head) = true
is_long_frame (stream.dropped cause) = false

abbrev pub hears_long_frame : Event → Bool
hears_long_frame (hears e) = is_long_frame e
hears_long_frame other = false

-- A frame that is given.
abbrev pub is_given : Answer → Bool
is_given (told t) = false
is_given (refused why) = false
is_given (gave frame) = is_some frame

-- How many frames one that is heard may bring at most, beside those of an REJ: two, or as a terminal answers a check of all
-- TEIs, one for each.
abbrev pub brought : Config → ℕ
brought c = if is_terminal c then max 2 c.terminals else 2

-- A request that was accepted.
abbrev pub is_accepted : Event → Answer → Bool
is_accepted (request r) (told t) = true
is_accepted (request r) (refused why) = false
is_accepted (request r) (gave frame) = false
is_accepted (hears e) answer = false
is_accepted (expiry timer) answer = false
is_accepted next answer = false

-- An expiry of a timer that was running.
abbrev pub is_running_expiry : Event → Line → Bool
is_running_expiry (expiry timer) l = is_running timer l
is_running_expiry other l = false

-- An REJ with a valid N(R) that meets a link in state 7 or 8.
abbrev pub rejects_aimed : Line → Aim → Bool
rejects_aimed l (at_link service tei place event) = links.rejects event (link_in l service place)
rejects_aimed l other = false

abbrev pub rejects : Config → Event → Line → Bool
rejects c event l = rejects_aimed l (aim_of c event l)

-- A request that finds the card's pool full.
abbrev pub is_pool : Refusal → Bool
is_pool refusals.PoolFull = true
is_pool other = false

abbrev pub is_pool_full : Answer → Bool
is_pool_full (told t) = false
is_pool_full (refused why) = is_pool why
is_pool_full (gave frame) = false
