-- The counters of a line.
use Rattle.std.specs.Prelude.{ℕ, ◌+◌, ◌*◌, ◌==◌, List, fold, get_or, set, min, replicate, sum_by, if◌then◌else◌}
use denote.Enum.Declared.{tag_of}
use Rattle.model_bits.specs.contracts.heard.Cause.{the_type as the_cause}
use Rattle.lapd_frame.specs.contracts.notes.ErrorCode.{the_type as the_code}
use Rattle.lapd_count.specs.contracts.counter.Counter.{the_type}
use Rattle.lapd_count.specs.contracts.counter.Way.{the_type as the_way}
use Rattle.lapd_count.specs.contracts.kinds.Kind.{the_type as the_kind}
use Rattle.lapd_count.specs.contracts.messages.MessageType.{the_type as the_message}
use Rattle.lapd_count.specs.declared.counter.Counter.{Counter}
use Rattle.lapd_count.specs.declared.counter.Counter.TheVariants.{Frames, Octets, Polls, Overlong, Dropped, Errors, Messages}
use Rattle.lapd_count.specs.declared.counters.Counters.{Counters}

-- Where each stands, no two at one place: in the order of the declaration, heard before begun; and kinds, causes, codes and
-- messages in that of theirs.
abbrev pub place : Counter → ℕ
place (Frames way kind) = 12 * tag_of the_way way + tag_of the_kind kind
place (Octets way) = 24 + tag_of the_way way
place (Polls way) = 26 + tag_of the_way way
place Overlong = 28
place (Dropped cause) = 29 + tag_of the_cause cause
place (Errors code) = 37 + tag_of the_code code
place (Messages way message) = 65 + 7 * tag_of the_way way + tag_of the_message message
place other = 45 + tag_of the_type other

abbrev pub count : ℕ
count = 79

-- The greatest value of a counter, at which it stays.
abbrev pub most : ℕ
most = 18446744073709551615

abbrev pub none_counted : Counters
none_counted = record { values = replicate count 0 }

abbrev pub value_in : Counters → Counter → ℕ
value_in counters counter = get_or counters.values (place counter) 0

-- So many more of one, and of some.
abbrev pub More : Type 0
More = Counter × ℕ

abbrev pub with_more : Counters → More → Counters
with_more counters (counter, amount) =
    record { values = set counters.values (place counter) (min (value_in counters counter + amount) most) }

abbrev pub with_all : Counters → List More → Counters
with_all counters all = fold with_more counters all

-- How many these are of one.
abbrev pub amount_of : Counter → More → ℕ
amount_of counter (other, amount) = if place other == place counter then amount else 0

abbrev pub amount_in : Counter → List More → ℕ
amount_in counter all = sum_by (amount_of counter) all
