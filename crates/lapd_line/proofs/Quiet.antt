-- A report that tells nothing but orders.
use Rattle.lapd_line.proofs.Vocabulary.{◌≡◌, ℕ, [], List, drop, listed, nothing, told_in, bare_shown, BareReport, option_or, told_shown, IsQuiet, unserved_cause}
use Rattle.std.specs.Prelude.{None, Some, if◌then◌else◌}

-- nothing of it is counted
pub quiet_shown : (r : BareReport) → IsQuiet r → bare_shown r ≡ []
quiet_shown r quiet = λ i. told_shown (quiet.notes i) (option_or (unserved_cause (quiet.unserved i)) (quiet.cause i)) (quiet.lost i)

-- it tells its orders, whatever came
pub quiet_told : (octets : List ℕ) (r : BareReport) → IsQuiet r → told_in octets r ≡ record nothing { orders = listed r.orders }
quiet_told octets r quiet = λ i. record {
  notes = quiet.notes i;
  contents = option_or (if quiet.delivered i then Some (drop r.start octets) else None) (if quiet.unit i then Some (drop r.start octets) else None);
  cause = option_or (unserved_cause (quiet.unserved i)) (quiet.cause i);
  orders = listed r.orders;
  lost = quiet.lost i;
  given_up = quiet.given_up i;
  given_up_16 = quiet.given_up_16 i;
}
