-- Which of the frames that begin are those of a link.
use Rattle.laws_trace.proofs.Vocabulary.{arith, ◌≡◌, ℕ, ◌==◌, ◌&&◌, ◌||◌, not, Bool, true, false, cond, List, [], ◌∷◌, Some, None, refl, ap, ◌∙◌, eq-eqb, inl, inr, All, filter, list_any, option_map_or, All-head, All-tail, Ui, Service, Parts, reading-again, sapi_of, address_at, IsGiven, Given, Config, terms, same-sapi, unwrap_or, line_frame_of as frame_of, result_ok, its_frame}
use Rattle.laws_trace.proofs.Vocabulary.{is_frame_of, is_ui, own_side}
use Rattle.laws_trace.proofs.OneLink.{IsForeign}
use Rattle.laws_trace.proofs.ReadAgain.{read-again}
use Rattle.laws_trace.proofs.Spelled.{whole-parts}

abbrev plain : Parts → Bool
plain f = not (is_ui f.control)

module _ (c : Config) (service : Service) (tei : ℕ) where
  -- no UI, and none of another link
  pub foreign : (frame : List ℕ) → IsForeign c service tei frame → is_frame_of c service tei frame ≡ false
  foreign frame (inl x) =
      ap (is_frame_of c service tei) x.1
      ∙ read-again (own_side c) (λ r. option_map_or plain (its_frame service tei (result_ok r)) false ≡ false) (record { sapi = 63; command = true; tei = 127 }) (Ui false)
      (λ info. grind arith) (λ fault. refl) x.0
  foreign frame (inr (inl x)) =
      ap (is_frame_of c service tei) x.1
      ∙ read-again (own_side c) (λ r. option_map_or plain (its_frame service tei (result_ok r)) false ≡ false) (record { sapi = sapi_of x.0.service; command = true; tei = x.0.tei }) (Ui false)
      (λ info. grind arith) (λ fault. refl) x.0.contents
  foreign frame (inr (inr x)) =
      let t = x.0 in
      let g = x.1 in
      let away : (sapi_of t.service == sapi_of service && t.tei == tei) ≡ false = ap (λ b. b && t.tei == tei) (same-sapi t.service service) ∙ x.3 in
      ap (is_frame_of c service tei) x.2
      ∙ read-again (own_side c) (λ r. option_map_or plain (its_frame service tei (result_ok r)) false ≡ false) (address_at t g.frame.command) g.frame.control
      (λ info. ap (λ b. option_map_or plain (cond b (Some (record { address = address_at t g.frame.command; control = g.frame.control; info = info })) None) false) away) (λ fault. refl) (unwrap_or g.contents [])

  pub all-foreign : (frames : List (List ℕ)) → All (IsForeign c service tei) frames → filter (is_frame_of c service tei) frames ≡ []
  all-foreign [] h = refl
  all-foreign (f ∷ frames) h =
      ap (λ b. cond b (f ∷ filter (is_frame_of c service tei) frames) (filter (is_frame_of c service tei) frames)) (foreign f (All-head (IsForeign c service tei) f frames h))
      ∙ all-foreign frames (All-tail (IsForeign c service tei) f frames h)

  pub any-foreign : (frames : List (List ℕ)) → All (IsForeign c service tei) frames → list_any (is_frame_of c service tei) frames ≡ false
  any-foreign [] h = refl
  any-foreign (f ∷ frames) h =
      ap (λ b. b || list_any (is_frame_of c service tei) frames) (foreign f (All-head (IsForeign c service tei) f frames h))
      ∙ any-foreign frames (All-tail (IsForeign c service tei) f frames h)

  -- what the link gives
  pub own-frame : (g : Given) → IsGiven (terms c service tei) g.frame g.contents → is_ui g.frame.control ≡ false → is_frame_of c service tei (frame_of c (terms c service tei) g) ≡ true
  own-frame g h none =
      let t = terms c service tei in
      ap (λ r. option_map_or plain (its_frame service tei (result_ok r)) false) (reading-again (own_side c) (whole-parts t g) (frame_of c t g) (record { is_frame = h.whole; octets_are = refl }))
      ∙ ap (λ b. option_map_or plain (cond b (Some (whole-parts t g)) None) false) (ap (λ b. b && tei == tei) (eq-eqb (sapi_of service) (sapi_of service) refl) ∙ eq-eqb tei tei refl)
      ∙ ap not none
