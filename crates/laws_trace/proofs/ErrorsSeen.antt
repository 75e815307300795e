-- What is wrong with what is seen of a link: one event of its line.
use Rattle.laws_trace.proofs.Vocabulary.{arith, ◌≡◌, ℕ, ◌&&◌, Bool, false, cond, List, [], ◌++◌, Some, None, Result, ap, ◌∙◌, ◌⊎◌, append-nil, option_to_list, option_map_or, ReadFault, ErrorCode, Long, Service, Parts, Config, Answer, aim_of_reading, aim_of_long, Line, place_in, terms, aim_of, IsBy, eqb-true, Event, option_and_then, result_ok, result_err, its_frame, is_for, faulty_long}
use Rattle.laws_trace.proofs.Vocabulary.{fault_of, wrong_frame, wrong, and-false, cond_both, frame, LinkEvent, received}
use Rattle.laws_trace.proofs.DeliveriesRun.{heard-aims-at}
use Rattle.laws_trace.proofs.LinkLed.{addressed-none, own-address}
use Rattle.laws_trace.proofs.NewsRows.{errors_of}
use Rattle.laws_trace.proofs.OneLink.{is_at_link}
use Rattle.laws_trace.proofs.TimersWatched.{nothing_yet}
use Rattle.laws_trace.proofs.Facts.{either-none}
use Rattle.laws_trace.specs.LinkFrames.{is_annex_b, is_too_long}
use Rattle.laws_trace.specs.News.{minds}

abbrev wrong_parts : Config → ℕ → ℕ → Parts → List ErrorCode
wrong_parts c was to f = wrong_frame (is_too_long c f && minds c was) f.address.command f.control was to

-- Where the state stays, or the TEI has left, T200 gave nothing up.
module _ (c : Config) (service : Service) (tei : ℕ) where
  -- no event of the link
  module _ (l : Line) (place : ℕ) (on : place_in l tei ≡ Some place) where
    no-fault : (r : Result Parts ReadFault) → is_at_link service tei (aim_of_reading c l r) ≡ false → option_and_then (fault_of service tei) (result_err r) ≡ None
    no-fault r aims = grind (arith, addressed-none, nothing_yet)

    no-long : (ui : Bool) (r : Result Long ReadFault) → is_at_link service tei (aim_of_long c.reading ui l r) ≡ false → faulty_long (is_annex_b c && ui) service tei r ≡ None
    no-long ui r aims = grind (arith, addressed-none, nothing_yet)

    pub none-wrong : (e : Event) → is_at_link service tei (aim_of c e l) ≡ false → (n m : ℕ) → (n ≡ m) ⊎ (m ≡ 1) → wrong c service tei e n m ≡ []
    none-wrong e aims n m stays = grind (arith, no-fault, no-long, cond_both, heard-aims-at, either-none, and-false, eqb-true)

  -- one event of it
  module _ (e : Event) (a : Answer) (from to : ℕ) where
    abbrev Wrong : LinkEvent → Type 0
    Wrong event = wrong c service tei e from to ≡ errors_of (terms c service tei) event from to

    pub one-wrong : (event : LinkEvent) → IsBy c e a service tei event → Wrong event
    one-wrong (received (frame f)) y =
        ap (λ e. wrong c service tei e from to) y.by
        ∙ ap (λ r. cond (minds c from) (option_to_list (option_and_then (fault_of service tei) (result_err r))) [] ++ option_map_or (wrong_parts c from to) (its_frame service tei (result_ok r)) []) y.read
        ∙ ap (λ xs. xs ++ option_map_or (wrong_parts c from to) (cond (is_for service tei f.address) (Some f) None) []) (either-none (minds c from))
        ∙ ap (λ b. option_map_or (wrong_parts c from to) (cond b (Some f) None) []) (own-address c service tei nothing_yet a f.address y.sapi y.tei_is)
    one-wrong event y = grind (arith, errors_of, append-nil)
