-- T201 runs while a TEI is under check, and the orders of each row say so.
use Rattle.model_teis.proofs.OfNetwork.Vocabulary.{◌≡◌, false, Course, Follows, is_some, begun, end_check, note, send, course, refusal, T201Follows, ExpiredT201Follows, IdentityRemove, ap, ◌++◌, ◌∷◌, [], sym, subst, refl, ◌∙◌}
use Rattle.lapd_frame.specs.declared.notes.Note.TheVariants.{Removed}
use Rattle.model_teis.proofs.OfNetwork.Counted.{counts}
use Rattle.model_teis.proofs.OfNetwork.Ends.{HasEnded, has_ended}
use Rattle.model_teis.proofs.OfNetwork.Walk.{of_expire}

pub t201_follows : T201Follows
t201_follows e m = (counts e m).follows

-- T201 has expired: whether it ran before says nothing where a check runs
abbrev OnExpiry : Course → Type 0
OnExpiry c = Follows false c.told.orders (is_some c.now.check)

ended_so : (c d : Course) → HasEnded c d → c.told.orders ≡ [] → OnExpiry d
ended_so c d e none =
    let (o, is, follows) = e.ordered in
    subst (λ l. Follows false l (is_some d.now.check)) (sym (is ∙ ap (λ l. l ++ o ∷ []) none)) (follows false)

after_end : (c : Course) → c.told.orders ≡ [] → OnExpiry (end_check c)
after_end c none = ended_so c (end_check c) (has_ended c) none

pub expired_t201_follows : ExpiredT201Follows
unfolding course refusal
expired_t201_follows m = of_expire m OnExpiry (record {
  is_idle = λ none. rw none refl;
  asks_again = λ own is. refl;
  has_settled = λ own is. refl;
  is_removed = λ own is. after_end (note (Removed own.tei) (begun m)) refl;
  is_told = λ own read is. after_end (send (IdentityRemove own.tei) (note (Removed own.tei) (begun m))) refl;
  ends = λ own is. after_end (begun m) refl;
})
