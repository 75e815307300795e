-- What a question changes, and what it writes.
use Rattle.std.specs.Prelude.{◌≢◌, Result}
use Rattle.std.specs.Result.{IfErr}
use Rattle.lapd_c.proofs.Vocabulary.{◌≡◌, ℕ, Option, subst, Machine, IfOk}
use Rattle.lapd_c.specs.QuestionsServed.{ChangesNothing, IsTold, QuestionsChangeNothing}
use Rattle.lapd_c.specs.Questions.{Has, IsQuestion, Lacks, Questioned}
use Rattle.lapd_c.specs.Wanted.{Wanted}
use Rattle.lapd_c.specs.declared.card.CardHandle.{CardHandle}
use Rattle.lapd_c.proofs.CallsServed.{each_card, is_other}

module _ {A : Type 0} (cards : Wanted) (old new : CardHandle) (result : ℕ) (before after : A) where
  nothing_changes : IsQuestion cards old new result before after → ChangesNothing cards old new result before after
  nothing_changes q = record {
    left = q.handle;
    unchanged = q.unchanged;
    no_card = q.no_card;
    other_card = λ m stands is. q.wrong_card (is_other cards old m stands is);
    unwritten = q.unwritten;
  }

  is_told : (line : Option ℕ) (word : Machine → Result A ℕ) → Questioned cards line word old new result before after → IsTold cards line word old result after
  is_told line word q = record {
    no_line = λ m stands is. each_card cards old m (λ m. Lacks line m → result ≡ 14) stands is q.wrong_line;
    wrong = λ m status a is. (
      subst (λ (w : Result A ℕ). IfErr w (λ wrong. result ≡ wrong)) is (each_card cards old m (λ m. Has line m → IfErr (word m) (λ wrong. result ≡ wrong)) a.stands a.of_card q.wrong a.has_line),
      subst (λ (w : Result A ℕ). IfErr w (λ wrong. wrong ≢ 0)) is (each_card cards old m (λ m. Has line m → IfErr (word m) (λ wrong. wrong ≢ 0)) a.stands a.of_card q.not_ok a.has_line),
    );
    told = λ m value a is. subst (λ (w : Result A ℕ). IfOk w (λ is. (result ≡ 0) × (after ≡ is))) is
        (each_card cards old m (λ m. Has line m → IfOk (word m) (λ is. (result ≡ 0) × (after ≡ is))) a.stands a.of_card q.told a.has_line);
  }

pub questions_change_nothing_by : (A : Type 0) → QuestionsChangeNothing A
questions_change_nothing_by A = record {
  nothing = λ cards old new result before after q. nothing_changes cards old new result before after q;
  answered = λ cards line word old new result before after q.
      (nothing_changes cards old new result before after q.question, is_told cards old new result before after line word q);
}
