-- What a link answers, as the machine tells it.
use Rattle.std.specs.Prelude.{◌≡◌, ℕ, ◌≤◌, List, length, Option, Some, None, option_map, if◌then◌else◌}
use Rattle.std.specs.Borrow.{Bor}
use Rattle.lapd_store.specs.Store.{Store, contents_of}
use Rattle.lapd_frame.specs.ShortLists.{listed}
use Rattle.lapd_link_steps.specs.declared.report.BareReport.{BareReport}
use Rattle.model_link.specs.Told.{LinkTold, Given}
use Rattle.lapd_link.specs.declared.outcome.Outcome.{Outcome}
use Rattle.lapd_link.specs.declared.offers.Offer.{Offer}

-- of a report, with the information that came with the frame
abbrev pub told_with : List ℕ → BareReport → LinkTold
told_with info report = record {
  notes = listed report.notes;
  delivered = if report.delivered then Some info else None;
  unit = if report.unit then Some info else None;
  orders = listed report.orders;
  lost = report.lost;
  given_up = report.given_up;
  given_up_16 = report.given_up_16;
  unserved = report.unserved;
}

-- of an outcome that lends it
abbrev pub lent : Option (Bor (List ℕ)) → Option (List ℕ)
lent o = option_map (λ octets. octets.now) o

abbrev pub told_of : Outcome → LinkTold
told_of outcome = record {
  notes = listed outcome.notes;
  delivered = lent outcome.delivered;
  unit = lent outcome.unit;
  orders = listed outcome.orders;
  lost = outcome.lost;
  given_up = outcome.given_up;
  given_up_16 = outcome.given_up_16;
  unserved = outcome.unserved;
}

-- of an offer, whose contents lie on the shelf
abbrev pub contents_in : Store → Option ℕ → Option (List ℕ)
contents_in store None = None
contents_in store (Some slot) = contents_of store slot

abbrev pub given_by : Store → Option Offer → Option Given
given_by store None = None
given_by store (Some offer) = Some (record { frame = offer.frame; contents = contents_in store offer.contents; orders = listed offer.orders })

-- a slot in use, with at most so many octets
abbrev pub HasMessage : Store → ℕ → ℕ → Type 0
HasMessage store most slot = (octets : List ℕ) × (contents_of store slot ≡ Some octets) × (length octets ≤ most)
