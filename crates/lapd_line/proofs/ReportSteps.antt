-- What is written into a report in which nothing is told yet.
use Rattle.lapd_line.proofs.Vocabulary.{arith, ◌≡◌, ℕ, List, Option, Some, None, drop, ap, ◌∙◌, Cause, told_with, nothing, told_of_link, BareReport, told_in, option_or, if◌then◌else◌, unserved_cause, IsClear}

none_else : (o : Option Cause) → option_or o None ≡ o
none_else o = grind arith

-- a cause alone,
pub cause_alone : {r : BareReport} (octets : List ℕ) (cause : Option Cause) → IsClear r → told_in octets (record r { cause = cause }) ≡ record nothing { cause = cause }
cause_alone {r} octets cause clear = λ i. record {
  notes = clear.notes i;
  contents = option_or (if clear.delivered i then Some (drop r.start octets) else None) (if clear.unit i then Some (drop r.start octets) else None);
  cause = option_or (unserved_cause (clear.unserved i)) cause;
  orders = clear.orders i;
  lost = clear.lost i;
  given_up = clear.given_up i;
  given_up_16 = clear.given_up_16 i;
}

-- or not even that,
pub clear_tells_nothing : {r : BareReport} (octets : List ℕ) → IsClear r → told_in octets r ≡ nothing
clear_tells_nothing {r} octets clear = cause_alone octets r.cause clear ∙ ap (λ c. record nothing { cause = c }) clear.cause

-- or what a link told
pub link_told : (octets info : List ℕ) (r : BareReport) (start : ℕ) → r.cause ≡ None → info ≡ drop start octets
    → told_in octets (record r { start = start }) ≡ told_of_link (told_with info r)
link_told octets info r start none is = grind (arith, none_else)
