-- Which frames that a line begins are unit data.
use Rattle.laws_trace.proofs.Vocabulary.{◌≡◌, ℕ, ◌≤◌, ◌==◌, ◌&&◌, Bool, true, false, List, refl, ap, ◌∙◌, Result, arith, not, Address, Sender, Ui, ReadFault, Service, Parts, spelling, sapi_of, reading-again, Config, UnitData, management_sapi, unit_frame, option_map_or, Control, result_ok, is_ui, is_unit, sapi-small, own_side}
use Rattle.laws_trace.proofs.ReadAgain.{read-again}

abbrev pub carries_unit : Result Parts ReadFault → Bool
carries_unit r = option_map_or (λ (f : Parts). is_ui f.control && not (f.address.sapi == management_sapi)) (result_ok r) false

-- What is no UI, or has SAPI 63, is none, whether the grammar has it or not.
pub other-frame : (sender : Sender) (a : Address) (c : Control) → (is_ui c && not (a.sapi == management_sapi)) ≡ false → (info : List ℕ)
    → is_unit sender (spelling sender (record { address = a; control = c; info = info })) ≡ false
other-frame sender a c other info = read-again sender (λ r. carries_unit r ≡ false) a c (λ info. other) (λ fault. refl) info

-- Unit data is, with the SAPI of its service.
by-service : (service : Service) → not (sapi_of service == management_sapi) ≡ true
by-service service = grind arith

pub unit-is : (c : Config) (u : UnitData) → u.tei ≤ 127 → is_unit (own_side c) (unit_frame c u) ≡ true
unit-is c u small =
    let parts : Parts = record { address = record { sapi = sapi_of u.service; command = true; tei = u.tei }; control = Ui false; info = u.contents } in
    ap carries_unit (reading-again (own_side c) parts (unit_frame c u) (record {
      is_frame = record { sapi = sapi-small u.service; tei = omega (arith, small); kind = refl; size = refl };
      octets_are = refl;
    }))
    ∙ by-service u.service
