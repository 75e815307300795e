-- I-frames of a link that go out, as they are read.
use Rattle.laws_trace.proofs.Vocabulary.{arith, ◌≡◌, ℕ, ◌==◌, ◌&&◌, true, false, cond, List, [], Option, Some, None, refl, ap, ◌∙◌, subst, eq-eqb, inl, inr, IfSome, option_map_or, Ui, Service, Parts, reading, sapi_of, reading-again, Link, address_at, is_information, Given, given_is_frame, Config, NextFrame, terms, same-sapi, unwrap_or, Control, line_frame_of as frame_of, given}
use Rattle.laws_trace.proofs.Vocabulary.{IsGiven, LinkIsInRange as IsInRange, LinkIsSound as IsSound, own_side}
use Rattle.laws_trace.proofs.TimersWatched.{Sent, sent_by, sent_in}
use Rattle.laws_trace.proofs.OneLink.{IsForeign}
use Rattle.laws_trace.proofs.ReadAgain.{read-again}

pub none-sent : (control : Control) (info : List ℕ) → is_information control ≡ false → sent_by control info ≡ None
none-sent control info e = grind arith

-- Frames of others, and what a link gives.
module _ (c : Config) (service : Service) (tei : ℕ) where
  abbrev pub sent_of : List ℕ → Option Sent
  sent_of octets = sent_in service tei (reading (own_side c) octets)

  pub foreign : (frame : List ℕ) → IsForeign c service tei frame → sent_of frame ≡ None
  foreign frame (inl x) =
      ap sent_of x.1 ∙ read-again (own_side c) (λ r. sent_in service tei r ≡ None) (record { sapi = 63; command = true; tei = 127 }) (Ui false)
      (λ info. grind arith) (λ fault. refl) x.0
  foreign frame (inr (inl x)) =
      ap sent_of x.1
      ∙ read-again (own_side c) (λ r. sent_in service tei r ≡ None) (record { sapi = sapi_of x.0.service; command = true; tei = x.0.tei }) (Ui false)
      (λ info. grind arith) (λ fault. refl) x.0.contents
  foreign frame (inr (inr x)) =
      let t = x.0 in
      let g = x.1 in
      let away : (sapi_of t.service == sapi_of service && t.tei == tei) ≡ false = ap (λ b. b && t.tei == tei) (same-sapi t.service service) ∙ x.3 in
      ap sent_of x.2 ∙ read-again (own_side c) (λ r. sent_in service tei r ≡ None) (address_at t g.frame.command) g.frame.control
      (λ info. ap (λ b. cond b (sent_by g.frame.control info) None) away) (λ fault. refl) (unwrap_or g.contents [])

  pub own-sent : (k : Link) → IsInRange (terms c service tei) → IsSound (terms c service tei) k → (g : Given) → given (terms c service tei) k ≡ Some g
      → sent_of (frame_of c (terms c service tei) g) ≡ sent_by g.frame.control (unwrap_or g.contents [])
  own-sent k ranged s g is =
      let t = terms c service tei in
      let info = unwrap_or g.contents [] in
      let f : Parts = record { address = address_at t g.frame.command; control = g.frame.control; info = info } in
      let whole = subst (λ o. IfSome o (λ g. IsGiven t g.frame g.contents)) is (given_is_frame t ranged k s) in
      ap (sent_in service tei) (reading-again (own_side c) f (frame_of c t g) (record { is_frame = whole.whole; octets_are = refl }))
      ∙ ap (λ b. cond b (sent_by g.frame.control info) None) (ap (λ b. b && tei == tei) (eq-eqb (sapi_of service) (sapi_of service) refl) ∙ eq-eqb tei tei refl)

  abbrev pub sent_with : Option NextFrame → Option Sent
  sent_with o = option_map_or (λ (f : NextFrame). sent_of f.octets) o None
