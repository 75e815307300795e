-- A line: TEI management, the links of its TEIs, unit data that waits, and whose turn it is.
use Rattle.std.specs.Prelude.{◌≡◌, ℕ, ◌+◌, ◌*◌, ◌/◌, ◌%◌, ◌==◌, Bool, false, List, [], replicate, get_or, set, Option, None, is_some, option_map, if◌then◌else◌, refl}
use Rattle.std.specs.Option.{option_map_or, unwrap_or}
use Rattle.lapd_frame.specs.declared.addresses.Side.{Side}
use Rattle.lapd_frame.specs.declared.addresses.Side.TheVariants.{User, Network}
use Rattle.lapd_frame.specs.declared.services.Service.{Service}
use Rattle.lapd_frame.specs.declared.services.Service.TheVariants.{Call, Packet}
use Rattle.model_link.specs.declared.counts.LinkCounts.{LinkCounts}
use Rattle.model_link.specs.declared.terms.Terms.{Terms}
use Rattle.model_link.specs.Link.{Link, fresh, most_repeats, state_number}
use Rattle.model_teis.specs.network.Machine.{Management, empty, place}
use Rattle.model_teis.specs.Table.{is_on}
use Rattle.model_teis.specs.terminal.Machine as terminals
use Rattle.model_teis.specs.declared.terminal.messages.Message.{Message}
use Rattle.model_teis.specs.declared.terminal.procedure.Procedure.{Procedure}
use Rattle.model_line.specs.declared.config.Config.{Config}

-- Unit data that waits to be sent: to which terminals, and its contents.
pub record UnitData : Type 0 where
  pub service : Service
  pub tei : ℕ
  pub contents : List ℕ

-- What a terminal has of TEI management beside the table of the TEIs: its reference number, the procedure that runs, and the
-- messages that wait.
pub record Own : Type 0 where
  pub number : ℕ
  pub procedure : Option Procedure
  pub waiting : List Message

pub record Line : Type 0 where
  -- TEI management: the table of the TEIs, and what the network's side has beside it
  pub management : Management
  -- and what a terminal has
  pub own : Own
  -- the links of all places of the TEI table, at each place that of call control before that of packet mode
  pub links : List Link
  -- unit data that waits to be sent, oldest first
  pub units : List UnitData
  -- the link at which the next round begins: the one after the link that was served last
  pub turn : ℕ

-- Each TEI has one link of each service, so there are two links a place.
abbrev pub link_number : ℕ → Service → ℕ
link_number place Call = 2 * place
link_number place Packet = 2 * place + 1

abbrev pub service_at : ℕ → Service
service_at number = if number % 2 == 0 then Call else Packet

abbrev pub place_at : ℕ → ℕ
place_at number = number / 2

abbrev pub link_count : Config → ℕ
link_count c = 2 * c.terminals

-- Whether a side is a terminal, whose TEIs the network assigns, and the first of its reference numbers, which have 16 bits.
-- (The seed is looked at for the user's side alone. The other sides use no number.)
abbrev pub is_at : Side → Option ℕ → Bool
is_at Network seed = false
is_at User seed = is_some seed

abbrev pub is_terminal : Config → Bool
is_terminal c = is_at c.side c.seed

abbrev pub seed_of : Config → ℕ
seed_of c = if is_terminal c then unwrap_or c.seed 0 % 65536 else 0

-- As a line begins.
abbrev pub fresh_line : Config → Line
fresh_line c = record {
  management = empty c.reading c.terminals;
  own = record { number = seed_of c; procedure = None; waiting = [] };
  links = replicate (link_count c) fresh;
  units = [];
  turn = 0;
}

-- The parameters of a link (Q.921 clause 5.9). The window is the service's own.
abbrev pub window : Config → Service → ℕ
window c Call = c.k
window c Packet = c.k16

abbrev pub terms : Config → Service → ℕ → Terms
terms c service tei = record {
  service = service;
  tei = tei;
  k = window c service;
  n201 = c.n201;
  n200 = c.n200;
  queue = c.queue;
  control = c.control;
  reading = c.reading;
}

-- How often SABME, DISC or the enquiry may be repeated, in the state of this number (clause 5.9.2):
abbrev pub repeats_in : Config → ℕ → ℕ
repeats_in c state = c.n200

-- as each of its links has it.
as_each_link : (c : Config) (service : Service) (tei state : ℕ) → repeats_in c state ≡ most_repeats (terms c service tei) state
as_each_link c service tei state = refl

-- How often a command goes at most until it is answered: once, and N200 times again (clause 5.9.2).
abbrev pub tries : Config → ℕ
tries c = c.n200 + 1

-- A link by its number, and the line with another one in its place.
abbrev pub link_at : ℕ → Line → Link
link_at number l = get_or l.links number fresh

abbrev pub with_link : ℕ → Link → Line → Line
with_link number link l = record l { links = set l.links number link }

-- TEI management of a terminal, and the line with another one in its place.
abbrev pub terminal_with : Management → Own → terminals.Terminal
terminal_with m own = record { reading = m.reading; places = m.places; number = own.number; procedure = own.procedure; waiting = own.waiting }

abbrev pub terminal_in : Line → terminals.Terminal
terminal_in l = terminal_with l.management l.own

abbrev pub with_terminal : terminals.Terminal → Line → Line
with_terminal t l = record l {
  management = record l.management { reading = t.reading; places = t.places };
  own = record { number = t.number; procedure = t.procedure; waiting = t.waiting };
}

-- A TEI is on the line, or not, and if it is, at a place.
abbrev pub has_tei : ℕ → Line → Bool
has_tei tei l = is_on tei l.management.places

abbrev pub place_in : Line → ℕ → Option ℕ
place_in l tei = place tei l.management

-- The TEI at a place, and the parameters of a link by its number. (Where the place is free, its links have nothing to
-- send.)
abbrev pub tei_at : ℕ → Line → Option ℕ
tei_at place l = get_or l.management.places place None

abbrev pub terms_at : Config → ℕ → Line → Terms
terms_at c number l = terms c (service_at number) (unwrap_or (tei_at (place_at number) l) 0)

-- The link of a service with a TEI. Where the TEI is not on the line, it is as one that begins.
abbrev pub link_in : Line → Service → ℕ → Link
link_in l service place = link_at (link_number place service) l

abbrev pub link_of : Service → ℕ → Line → Link
link_of service tei l = option_map_or (link_in l service) (place_in l tei) fresh

-- The state of that link, by its number in Q.921; none where the TEI is not on the line.
abbrev pub state_in : Line → Service → ℕ → ℕ
state_in l service place = state_number (link_in l service place).state

abbrev pub state_of : Service → ℕ → Line → Option ℕ
state_of service tei l = option_map (state_in l service) (place_in l tei)

-- What was counted of that link; none where the TEI is not on the line.
abbrev pub counts_in : Line → Service → ℕ → LinkCounts
counts_in l service place = (link_in l service place).counts

abbrev pub counts_of : Service → ℕ → Line → Option LinkCounts
counts_of service tei l = option_map (counts_in l service) (place_in l tei)
