-- Each line says its frame.
use Rattle.lapd_text.proofs.Vocabulary.{◌≡◌, ℕ, List, [], ◌∷◌, ◌++◌, ◌+◌, ◌*◌, ◌/◌, ◌%◌, ◌==◌, Bool, true, false, if◌then◌else◌, codes, Ok, Some, refl, ap, zero, suc, ◌∙◌, ◌≤◌, append_assoc, arith, fields, number_text, octets_text}
use Rattle.std.specs.Prelude.{◌&&◌, ◌⊎◌}
use Rattle.std.proofs.Common.{inl, inr}
use Rattle.std.proofs.lemmas.Bool.{and_parts, eqb-true}
use Rattle.lapd_frame.specs.declared.controls.Control.TheVariants.{Information, ReceiveReady, ReceiveNotReady, Reject, Sabme, Disc, Ui, Ua, Dm, Frmr, Xid}
use Rattle.lapd_frame.specs.Grammar.{Parts}
use Rattle.lapd_text.specs.Messages.{meaning_text, message_text, name_of, words_of}
use Rattle.lapd_text.specs.Named.{FramesAreNamed, IsMessage, IsOne, after_numbers, before_name, in_digits}
use Rattle.lapd_text.specs.Told.{told_of}

-- what stands after the name
abbrev after_name : Parts → List ℕ
after_name frame =
    number_text (codes " ns ") (fields frame.control).ns
    ++ (number_text (codes " nr ") (fields frame.control).nr
    ++ ((if frame.address.command then codes " p " else codes " f ")
    ++ ((if (fields frame.control).bit then codes "1" else codes "0")
    ++ (codes " info " ++ (octets_text frame.info ++ (meaning_text frame ++ codes "\n"))))))

to_right : (b c d e f g h i j : List ℕ) → b ++ c ++ d ++ e ++ f ++ g ++ h ++ i ++ j ≡ b ++ (c ++ (d ++ (e ++ (f ++ (g ++ (h ++ (i ++ j)))))))
to_right b c d e f g h i j = grind (arith, append_assoc)

told-is : (frame : Parts) → told_of (Ok frame) ≡ before_name frame.address ++ (fields frame.control).name ++ after_name frame
told-is frame = to_right (before_name frame.address ++ (fields frame.control).name) _ _ _ _ _ _ _ _

-- the information's digits, and what no message means
same_digits : (info : List ℕ) → octets_text info ≡ in_digits info
same_digits [] = refl
same_digits (octet ∷ more) = refl

abbrev no_octets : List ℕ
no_octets = []

nothing : (b : Bool) → (if b then no_octets else no_octets) ≡ no_octets
nothing true = refl
nothing false = refl

-- a frame's line, if it has these numbers and means this
named : (name meant : List ℕ) (numbers : List ℕ → List ℕ) (bit : Bool) (frame : Parts) → (fields frame.control).name ≡ name
    → ((more : List ℕ) → number_text (codes " ns ") (fields frame.control).ns ++ (number_text (codes " nr ") (fields frame.control).nr ++ more) ≡ numbers more)
    → (fields frame.control).bit ≡ bit → meaning_text frame ≡ meant
    → told_of (Ok frame) ≡ before_name frame.address ++ name ++ numbers (after_numbers frame.address bit frame.info meant)
named name meant numbers bit frame is its set means =
    told-is frame
    ∙ ap (λ n. before_name frame.address ++ n ++ after_name frame) is
    ∙ ap (λ r. before_name frame.address ++ name ++ r) (its _)
    ∙ ap (λ b. before_name frame.address ++ name ++ numbers ((if frame.address.command then codes " p " else codes " f ") ++ ((if b then codes "1" else codes "0") ++ (codes " info " ++ (octets_text frame.info ++ (meaning_text frame ++ codes "\n")))))) set
    ∙ ap (λ d. before_name frame.address ++ name ++ numbers ((if frame.address.command then codes " p " else codes " f ") ++ ((if bit then codes "1" else codes "0") ++ (codes " info " ++ (d ++ (meaning_text frame ++ codes "\n")))))) (same_digits frame.info)
    ∙ ap (λ m. before_name frame.address ++ name ++ numbers (after_numbers frame.address bit frame.info m)) means

-- a message's words
doubled : (action : ℕ) → ((2 * action + 1) % 2 ≡ 1) × ((2 * action + 1) / 2 ≡ action)
doubled action = (omega arith, omega arith)

said : (type : ℕ) (name : List ℕ) → name_of type ≡ Some name → IsMessage type name
said type name is p a high low action sapi =
    ap (λ n. if n == 63 then message_text (15 ∷ high ∷ low ∷ type ∷ (2 * action + 1) ∷ []) else []) sapi
    ∙ ap (λ n. if n == 1 then words_of (name_of type) high low ((2 * action + 1) / 2) else []) ((doubled action).0)
    ∙ ap (λ n. words_of (name_of type) high low n) ((doubled action).1)
    ∙ ap (λ n. words_of n high low action) is

one_of : (high low type last : ℕ) (entity : ℕ) → (1 ≤ type) × (type ≤ 7) → (entity == 15 && last % 2 == 1) ≡ true → IsOne (entity ∷ high ∷ low ∷ type ∷ last ∷ [])
one_of high low type last entity known is =
    let parts = and_parts (entity == 15) (last % 2 == 1) is in
    let whole : last ≡ 2 * (last / 2) + 1 = omega (arith, eqb-true (last % 2) 1 (parts.1)) in
    record {
      high = high;
      low = low;
      type = type;
      action = last / 2;
      is = ap (λ e. e ∷ high ∷ low ∷ type ∷ last ∷ []) (eqb-true entity 15 (parts.0)) ∙ ap (λ l. 15 ∷ high ∷ low ∷ type ∷ l ∷ []) whole;
      known = known;
    }

-- by its type, which has a name if it is 1 to 7
typed : (high low last entity type : ℕ) (b : Bool) → (entity == 15 && last % 2 == 1) ≡ b
    → ((if b then words_of (name_of type) high low (last / 2) else no_octets) ≡ []) ⊎ IsOne (entity ∷ high ∷ low ∷ type ∷ last ∷ [])
typed high low last entity type false is = inl refl
typed high low last entity zero true is = inl refl
typed high low last entity (suc zero) true is = inr (one_of high low 1 last entity (omega arith, omega arith) is)
typed high low last entity (suc (suc zero)) true is = inr (one_of high low 2 last entity (omega arith, omega arith) is)
typed high low last entity (suc (suc (suc zero))) true is = inr (one_of high low 3 last entity (omega arith, omega arith) is)
typed high low last entity (suc (suc (suc (suc zero)))) true is = inr (one_of high low 4 last entity (omega arith, omega arith) is)
typed high low last entity (suc (suc (suc (suc (suc zero))))) true is = inr (one_of high low 5 last entity (omega arith, omega arith) is)
typed high low last entity (suc (suc (suc (suc (suc (suc zero)))))) true is = inr (one_of high low 6 last entity (omega arith, omega arith) is)
typed high low last entity (suc (suc (suc (suc (suc (suc (suc zero))))))) true is = inr (one_of high low 7 last entity (omega arith, omega arith) is)
typed high low last entity (suc (suc (suc (suc (suc (suc (suc (suc more)))))))) true is = inl refl

message_or_none : (info : List ℕ) → (message_text info ≡ []) ⊎ IsOne info
message_or_none [] = inl refl
message_or_none (a ∷ []) = inl refl
message_or_none (a ∷ b ∷ []) = inl refl
message_or_none (a ∷ b ∷ c ∷ []) = inl refl
message_or_none (a ∷ b ∷ c ∷ d ∷ []) = inl refl
message_or_none (entity ∷ high ∷ low ∷ type ∷ last ∷ []) = typed high low last entity type (entity == 15 && last % 2 == 1) refl
message_or_none (a ∷ b ∷ c ∷ d ∷ e ∷ f ∷ more) = inl refl

only_of : (info : List ℕ) (b : Bool) → ((if b then message_text info else no_octets) ≡ []) ⊎ IsOne info
only_of info true = message_or_none info
only_of info false = inl refl

pub frames_are_named : FramesAreNamed
frames_are_named = record {
  of_side = λ side octets. refl;
  i = λ ns nr p a info. named (codes "i") [] _ p (record { address = a; control = Information ns nr p; info = info }) refl (λ more. refl) refl (nothing (a.sapi == 63));
  rr = λ nr pf a info. named (codes "rr") [] _ pf (record { address = a; control = ReceiveReady nr pf; info = info }) refl (λ more. refl) refl (nothing (a.sapi == 63));
  rnr = λ nr pf a info. named (codes "rnr") [] _ pf (record { address = a; control = ReceiveNotReady nr pf; info = info }) refl (λ more. refl) refl (nothing (a.sapi == 63));
  rej = λ nr pf a info. named (codes "rej") [] _ pf (record { address = a; control = Reject nr pf; info = info }) refl (λ more. refl) refl (nothing (a.sapi == 63));
  sabme = λ p a info. named (codes "sabme") [] (λ more. more) p (record { address = a; control = Sabme p; info = info }) refl (λ more. refl) refl (nothing (a.sapi == 63));
  disc = λ p a info. named (codes "disc") [] (λ more. more) p (record { address = a; control = Disc p; info = info }) refl (λ more. refl) refl (nothing (a.sapi == 63));
  ui = λ p a info. named (codes "ui") _ (λ more. more) p (record { address = a; control = Ui p; info = info }) refl (λ more. refl) refl refl;
  ua = λ f a info. named (codes "ua") [] (λ more. more) f (record { address = a; control = Ua f; info = info }) refl (λ more. refl) refl (nothing (a.sapi == 63));
  dm = λ f a info. named (codes "dm") [] (λ more. more) f (record { address = a; control = Dm f; info = info }) refl (λ more. refl) refl (nothing (a.sapi == 63));
  frmr = λ f a info. named (codes "frmr") [] (λ more. more) f (record { address = a; control = Frmr f; info = info }) refl (λ more. refl) refl (nothing (a.sapi == 63));
  xid = λ pf a info. named (codes "xid") [] (λ more. more) pf (record { address = a; control = Xid pf; info = info }) refl (λ more. refl) refl (nothing (a.sapi == 63));
  request = said 1 _ refl;
  assigned = said 2 _ refl;
  denied = said 3 _ refl;
  check_request = said 4 _ refl;
  check_response = said 5 _ refl;
  remove = said 6 _ refl;
  verify = said 7 _ refl;
  others = λ p a info other. ap (λ b. if b then message_text info else no_octets) other;
  only = λ p a info. only_of info (a.sapi == 63);
  bad_extension = refl;
  undefined = λ a. refl;
  wrong_size = λ a. refl;
  short = refl;
}
