-- What was counted of a line and of a link, for C.
use Rattle.lapd_count.specs.declared.counters.Counters.{Counters}
use Rattle.model_link.specs.declared.counts.LinkCounts.{LinkCounts}
use Rattle.lapd_c.specs.declared.plain.counters.PlainCounters.{PlainCounters}
use Rattle.lapd_c.specs.declared.plain.counters.PlainLinkCounters.{PlainLinkCounters}
use Rattle.lapd_c.specs.Reserved.{unused}

abbrev pub plain_counters : Counters → PlainCounters
plain_counters counters = record { values = counters.values; reserved = unused 17 }

abbrev pub plain_link_counters : LinkCounts → PlainLinkCounters
plain_link_counters counts = record {
  sent_again = counts.sent_again;
  t200_expired = counts.t200_expired;
  rejects_sent = counts.rejects_sent;
  rejects_received = counts.rejects_received;
  established = counts.established;
  reserved = unused 11;
}
