-- A card as it begins is saved.
use Rattle.std.proofs.Common.{◌≡◌, arith, lit<, ℕ, zero, suc, ◌<◌, ◌≤◌, Bool, false, replicate, Option, Some, None, sym, ◌∙◌, cond, ◌%◌, true, refl}
use Rattle.std.specs.Option.{unwrap_or}
use Rattle.std.specs.List.{AllZip}
use Rattle.std.specs.Prelude.{IfSome}
use Rattle.std.proofs.lemmas.Bool.{false≢true}
use Rattle.std.proofs.lemmas.List.{length-replicate}
use Rattle.std.proofs.lemmas.List.Elements.{All-nil, All-replicate}
use Rattle.lapd_count.specs.Counters.{count, most, none_counted}
use Rattle.model_teis.specs.network.Messages.{information_of}
use Rattle.model_teis.specs.terminal.Messages as terminals
use Rattle.model_bits.specs.StuffingLaws.{AreOctets}
use Rattle.model_link.specs.Link.{fresh}
use Rattle.model_line.specs.declared.config.Config.{Config}
use Rattle.model_line.specs.Line.{fresh_line, is_terminal, link_count}
use Rattle.model_line.specs.Sound.{IsInRange}
use Rattle.model_line.proofs.TimersFollow.{all-same}
use Rattle.model_card.proofs.CardSound.{fresh_is_sound}
use Rattle.model_card.proofs.Reaching.{timed-fresh}
use Rattle.model_timed.specs.Clock.{Clock, stopped}
use Rattle.model_timed.proofs.Running.{run-fresh}
use Rattle.model_image.specs.Images.{begun, none_changed}
use Rattle.model_image.specs.Laws.{CardsBeginSaved}
use Rattle.lapd_count.specs.Image.{IsCounted}
use Rattle.model_link.specs.Image.{IsSavedLink}
use Rattle.model_line.specs.Image.{IsSavedLine}
use Rattle.model_image.specs.Sound.{AreMarks, IsClockOf, AreMoments, AreChanges, IsSaved}

-- the other sides use no reference number
unused : (b : Bool) (n : ℕ) → b ≡ false → cond b n 0 ≡ 0
unused true n e = absurd (cc)
unused false n e = refl

line-saved : (c : Config) → IsSavedLine c (fresh_line c)
line-saved c = record {
  remembered = All-nil (λ r. r.ri < 65536);
  messages = All-nil (λ message. AreOctets (information_of message));
  own = All-nil (λ message. AreOctets (terminals.information_of message));
  unused = unused (is_terminal c) (unwrap_or c.seed 0 % 65536);
  links = All-replicate IsSavedLink (link_count c) fresh (record { counts = All-replicate (λ (n : ℕ). n ≤ 65535) 5 0 (omega arith); octets = All-nil AreOctets });
  units = All-nil (λ u. AreOctets u.contents);
}

none-is-counted : IsCounted none_counted
none-is-counted = record { whole = length-replicate {A = ℕ} count 0; few = All-replicate (λ (n : ℕ). n ≤ most) count 0 (omega arith) }

zip-replicate : {A B : Type 0} (R : A → B → Type 0) (n : ℕ) (x : A) (y : B) → R x y → AllZip R (replicate n x) (replicate n y)
zip-replicate R zero x y one = tt
zip-replicate R (suc n) x y one = (one, zip-replicate R n x y one)

unmarked : (c : Config) → AreMarks c (fresh_line c) (replicate (link_count c) false)
unmarked c = record {
  each = length-replicate (link_count c) false;
  there = λ number marked. absurd (false≢true (sym (all-same false (link_count c) number) ∙ marked));
}

none-are-changes : (c : Config) (o : Option Clock) → AreChanges c o (none_changed c o)
none-are-changes c None = refl
none-are-changes c (Some clock) = (
  length-replicate c.lines (replicate {A = ℕ} (link_count c) 0),
  All-replicate (AreMoments c clock.now) c.lines (replicate (link_count c) 0)
      (record { each = length-replicate {A = ℕ} (link_count c) 0; past = All-replicate (λ (n : ℕ). n ≤ clock.now) (link_count c) 0 (omega arith) }),
)

saved : (of_octets : Bool) (c : Config) (clock : Option Clock) → IsInRange c → IfSome c.seed (λ n. n < 65536) → IfSome clock (IsClockOf (begun of_octets c clock).card)
    → IsSaved (begun of_octets c clock)
saved of_octets c clock range seed at = record {
  card = fresh_is_sound c range;
  timed = timed-fresh c;
  seed = seed;
  lines = All-replicate (IsSavedLine c) c.lines (fresh_line c) (line-saved c);
  each_counted = length-replicate c.lines none_counted;
  counted = All-replicate IsCounted c.lines none_counted none-is-counted;
  waits = zip-replicate (AreMarks c) c.lines (fresh_line c) (replicate (link_count c) false) (unmarked c);
  clock = at;
  changed = none-are-changes c clock;
}

pub cards_begin_saved : CardsBeginSaved
cards_begin_saved = record {
  untimed = λ of_octets c range seed. saved of_octets c None range seed tt;
  timed = λ of_octets c lengths range seed lengths_fit. saved of_octets c (Some (stopped lengths)) range seed (record {
    lengths = lengths_fit;
    now = lit< tt;
    moments = All-nil (λ e. e.moment ≤ 3600000);
    in_order = tt;
    one_each = tt;
    on_lines = tt;
    running = run-fresh c lengths;
  });
}
