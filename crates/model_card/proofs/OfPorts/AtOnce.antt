-- A pull takes the next frame where fewer than eight bits are left, and nothing else is put on the line: the law.
use Rattle.model_card.proofs.OfPorts.Vocabulary.{◌≡◌, ℕ, ◌<◌, Bool, true, false, nat_lt, cond, List, [], ◌∷◌, ◌++◌, length, map, drop, Option, None, Some, option_map, option_to_list, refl, sym, ap, ◌∙◌, subst, arith, append_assoc, bits, length-bits, line_text, Config, Event, NextFrame, IsTextOf, OctetCard, Port, after, after_all, fresh, fresh_port, is_due, item_of, left_of, length-replicate}
use Rattle.model_card.proofs.OfPorts.Vocabulary.{meant, meant_all, port_at, calls_answered, octets_given, moments_meant, pull}
use Rattle.model_line.specs.Event as line
use Rattle.model_card.specs.Event as frames
use Rattle.model_card.specs.ports.AtOnce.{FramesGoAtOnce, item_given, left_to_give, text_of_calls}
use Rattle.model_card.specs.ports.Event.{at}
use Rattle.model_card.proofs.OfPorts.CallsPut.{run_puts}
use Rattle.model_card.proofs.OfPorts.Codec.{run_goes_on}
use Rattle.model_card.proofs.OfPorts.GoingOut.{fresh_at}

-- the item that a port puts is the one that stands in the text
items_given : (calls : List (Option NextFrame)) → map item_given calls ≡ map item_of calls
items_given [] = refl
items_given (None ∷ calls) = ap (λ l. item_of None ∷ l) (items_given calls)
items_given (Some given ∷ calls) = ap (λ l. item_of (Some given) ∷ l) (items_given calls)

-- what one event more means
pub meant_append : (m : OctetCard) (a b : List Event) → meant_all m (a ++ b) ≡ meant_all m a ++ meant_all (after_all m a) b
unfolding meant_all after_all
meant_append m [] b = refl
meant_append m (e ∷ a) b =
    ap (λ l. option_to_list (meant e m) ++ l) (meant_append (after e m) a b)
    ∙ sym (append_assoc (option_to_list (meant e m)) (meant_all (after e m) a) (meant_all (after_all (after e m) a) b))

-- what a pull means
pull_means : (m : OctetCard) (number : ℕ) → meant_all m (at number pull ∷ []) ≡ cond (is_due (port_at number m)) (frames.at number line.next ∷ []) []
unfolding meant_all meant
pull_means m number = go (is_due (port_at number m))
  where
    go : (due : Bool) → option_to_list (option_map (frames.at number) (cond due (Some line.next) None)) ++ [] ≡ cond due (frames.at number line.next ∷ []) []
    go true = refl
    go false = refl

module _ (c : Config) (events : List Event) (number : ℕ) (within : number < c.lines) where
  abbrev m : OctetCard
  m = after_all (fresh c) events

  abbrev p : Port
  p = port_at number m

  inside : number < length (fresh c).ports
  inside = omega (arith, within, length-replicate c.lines fresh_port)

  given_is : p.given ≡ octets_given c events number
  given_is = (run_goes_on (fresh c) events number inside).given ∙ ap (λ (p : Port). p.given ++ octets_given c events number) (fresh_at c number within)

  text_is : line_text p.items ≡ text_of_calls c events number
  text_is =
      ap line_text
      (run_puts (fresh c) events number inside ∙ ap (λ (p : Port). p.items ++ map item_of (calls_answered number (moments_meant c events))) (fresh_at c number within)
      ∙ sym (items_given (calls_answered number (moments_meant c events))))

  left_is : left_of p ≡ left_to_give c events number
  left_is =
      ap (λ t. drop (length (bits p.given)) t) text_is
      ∙ ap (λ os. drop (length (bits os)) (text_of_calls c events number)) given_is
      ∙ ap (λ n. drop n (text_of_calls c events number)) (length-bits (octets_given c events number))

  begun : IsTextOf (port_at number (fresh c))
  begun = subst IsTextOf (sym (fresh_at c number within)) (record { text = refl })

  pub text : text_of_calls c events number ≡ bits (octets_given c events number) ++ left_to_give c events number
  text =
      sym text_is ∙ ((run_goes_on (fresh c) events number inside).text begun).text
      ∙ ap (λ os. bits os ++ left_of p) given_is ∙ ap (λ l. bits (octets_given c events number) ++ l) left_is

  pub calls : meant_all (fresh c) (events ++ at number pull ∷ [])
      ≡ meant_all (fresh c) events ++ cond (nat_lt (length (left_to_give c events number)) 8) (frames.at number line.next ∷ []) []
  calls =
      meant_append (fresh c) events (at number pull ∷ [])
      ∙ ap (λ l. meant_all (fresh c) events ++ l)
      (pull_means m number ∙ ap (λ l. cond (nat_lt (length l) 8) (frames.at number line.next ∷ []) []) left_is)

pub frames_go_at_once : FramesGoAtOnce
frames_go_at_once = record { text = text; calls = calls }
