-- What the link at a place does at an event, said of the list of all.
use Rattle.std.specs.Prelude.{◌≡◌, ℕ, Bool, List, set, None, Option, IfSome}
use Rattle.lapd_frame.specs.Grammar.{IsFrame}
use Rattle.lapd_store.specs.Ownership.{Owned}
use Rattle.lapd_store.specs.Store.{Store, SameLimits, IsUsed}
use Rattle.lapd_link.specs.declared.link.Link.{Link}
use Rattle.lapd_link.specs.declared.offers.Offer.{Offer}
use Rattle.lapd_link_steps.specs.declared.report.BareReport.{BareReport}
use Rattle.lapd_link.specs.Outcome.{told_with, given_by, HasMessage}
use Rattle.model_link.specs.declared.terms.Terms.{Terms}
use Rattle.lapd_frame.specs.declared.refusals.Refusal.{Refusal}
use Rattle.model_link.specs.Events.{Event, Request, offer}
use Rattle.model_link.specs.Requests.{refusal}
use Rattle.model_link.specs.Link as machine
use Rattle.model_link.specs.Link.{frame_of}
use Rattle.model_link.specs.Machine.{after, told, given}
use Rattle.model_line.specs.declared.config.Config.{Config}
use Rattle.lapd_line.specs.Links.{HasTerms, LinksStand, machine_at, terms_in}

-- An event of the link at a place: that machine goes on, and no other.
abbrev pub GoesOn : ℕ → Event → List Link → Store → List Link → Store → Type 0
GoesOn number e old s new t =
    (c : Config) (terms : Terms) (others : List Owned) (ms : List machine.Link) → HasTerms old number terms → LinksStand c old s others ms
    → LinksStand c new t others (set ms number (after terms e (machine_at ms number)))

-- And it is answered with what that machine tells; why octets were dropped no link tells.
abbrev pub IsAnswered : ℕ → Event → List ℕ → List Link → Store → BareReport → Type 0
IsAnswered number e info old s report =
    (c : Config) (terms : Terms) (others : List Owned) (ms : List machine.Link) → HasTerms old number terms → LinksStand c old s others ms
    → told_with info report ≡ told terms e (machine_at ms number)

pub record Serves (number : ℕ) (e : Event) (info : List ℕ) (old : List Link) (s : Store) (new : List Link) (t : Store) (report : BareReport) : Type 0 where
  pub terms : terms_in new ≡ terms_in old
  pub limits : SameLimits s t
  pub goes_on : GoesOn number e old s new t
  pub told : IsAnswered number e info old s report
  pub cause : report.cause ≡ None

-- A request of the link at a place is refused for this reason, or not.
abbrev pub Refuses : ℕ → Bool → Request → List Link → Store → Option Refusal → Type 0
Refuses number full request old s why =
    (c : Config) (terms : Terms) (others : List Owned) (ms : List machine.Link) → HasTerms old number terms → LinksStand c old s others ms
    → refusal terms (machine_at ms number) full request ≡ why

-- What the link at a place has to give is what its machine gives: a frame, and contents that lie in a slot that is in
-- use.
pub record IsGiven (store : Store) (terms : Terms) (m : machine.Link) (o : Option Offer) : Type 0 where
  pub given : given_by store o ≡ given terms m
  pub frame : IfSome o (λ x. IsFrame (frame_of terms x.frame))
  pub slot : IfSome o (λ x. IfSome x.contents (HasMessage store terms.n201))
  pub used : IfSome o (λ x. IfSome x.contents (λ slot. IsUsed store slot))

pub record Offers (number : ℕ) (old new : List Link) (o : Option Offer) : Type 0 where
  pub terms : terms_in new ≡ terms_in old
  pub goes_on : (store : Store) → GoesOn number offer old store new store
  pub given : (c : Config) (terms : Terms) (store : Store) (others : List Owned) (ms : List machine.Link) → HasTerms old number terms
      → LinksStand c old store others ms → IsGiven store terms (machine_at ms number) o
