-- Hand-written answers for `read_words`.
use Rattle.lapd_script.proofs.Vocabulary.{Some, None, refl, sym, ap, subst, ◌∙◌, length, ◌≤◌, All, All-tail, texts}
use Rattle.lapd_script.proofs.ReadLemmas.{read_taken, read_nothing}
use Rattle.lapd_script.proofs.read.read_words.Goals as goal

pub returns-in-Some-named : goal.returns-in-Some-named
returns-in-Some-named c = record {
  read = λ all e. c.read_as.ensures.read
      ∙ read_taken all c.in-Some.name.now.now (texts c.in-Some.words.now) (Some c.in-Some-named.word)
      (sym (ap texts c.in-Some.ensures.cases.0) ∙ e) c.in-Some-named.ensures;
  counted = c.read_as.ensures.counted;
  rest = λ n all. c.read_as.ensures.rest n
      (All-tail (λ word. length word.now ≤ n) c.in-Some.name.now c.in-Some.words.now (subst (λ l. All (λ word. length word.now ≤ n) l) c.in-Some.ensures.cases.0 all));
}

pub returns-in_default : goal.returns-in_default
returns-in_default c = record {
  read = λ all e. read_nothing c.args.words.now all c.in_default.ensures.cases e;
  counted = tt;
  rest = λ n all. refl;
}

pub returns-in-None : goal.returns-in-None
returns-in-None c = record {
  read = λ all e. read_taken all c.in-Some.name.now.now (texts c.in-Some.words.now) None (sym (ap texts c.in-Some.ensures.cases.0) ∙ e) c.in-None.ensures;
  counted = tt;
  rest = λ n all. refl;
}
