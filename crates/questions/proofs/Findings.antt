-- Findings taken error by error.
use Rattle.std.proofs.Common.{◌≡◌, ℕ, ◌+◌, ◌<◌, Bool, true, List, ◌∷◌, length, get_or, drop, is_some, Some, None, Ok, Err, Option, Result, sym, refl, ap, ◌∙◌}
use Rattle.std.specs.List.{cons_option, filter_map}
use Rattle.std.proofs.lemmas.Bool.{cond-true}
use Rattle.std.proofs.lemmas.List.{drop_more}
use Rattle.vocabulary.specs.FrameError.{error_number}
use Rattle.vocabulary.specs.declared.fault.HostFault.{HostFault}
use Rattle.vocabulary.specs.declared.frame_error.FrameError.{FrameError}
use Rattle.vocabulary.specs.declared.frame_error.FrameError.TheVariants.{Host}
use Rattle.vocabulary.specs.declared.policy.Pair.{Pair}
use Rattle.model.specs.Host.{Error, Errors, answer}
use Rattle.host.specs.Findings.{chain_pairs, findings_of}
use Rattle.host.specs.declared.judge.Findings.{Findings}
use Rattle.readings.specs.Readings.{first_not_live}
use Rattle.listed_readings.specs.Judged.{all_findings, both, if_live, judged}
use Rattle.listed_readings.proofs.Judging.{both_monoid}

-- findings beside those of the errors that are left
abbrev pub beside : Findings → Result Findings HostFault → Result Findings HostFault
beside f (Ok g) = Ok (both f g)
beside f (Err e) = Err e

beside_both : (f g : Findings) (r : Result Findings HostFault) → beside (both f g) r ≡ beside f (beside g r)
beside_both f g (Ok k) = ap Ok ((both_monoid).associates f g k)
beside_both f g (Err e) = refl

module _ (h : Errors) (accepts : Pair → Bool) where
  -- what judging an error that is live answers
  abbrev of_error : ℕ → Findings
  of_error e = findings_of accepts (chain_pairs h e)

  more : (d : ℕ) (es : List FrameError) → is_some (h d) ≡ true → beside (of_error d) (judged h accepts es) ≡ judged h accepts (Host d ∷ es)
  more d es v = go (first_not_live h es) ∙ ap (λ (o : Option ℕ). if_live o (all_findings h accepts (Host d ∷ es))) (sym (cond-true (is_some (h d)) _ _ v))
    where
      go : (o : Option ℕ) → beside (of_error d) (if_live o (all_findings h accepts es)) ≡ if_live o (all_findings h accepts (Host d ∷ es))
      go None = refl
      go (Some e) = refl

  -- an error that was judged
  pub goes_on : (f k : Findings) (e : FrameError) (es : List FrameError) → Ok k ≡ answer (h (error_number e)) (error_number e) (λ _. of_error (error_number e)) → beside (both f k) (judged h accepts es) ≡ beside f (judged h accepts (e ∷ es))
  goes_on f k (Host d) es q = go (h d) refl q
    where
      go : (o : Option Error) → h d ≡ o → Ok k ≡ answer o d (λ _. of_error d) → beside (both f k) (judged h accepts es) ≡ beside f (judged h accepts (Host d ∷ es))
      go None p q = absurd cc
      go (Some m) p q =
          let is : k ≡ of_error d = cc in
          ap (λ (g : Findings). beside (both f g) (judged h accepts es)) is ∙ beside_both f (of_error d) (judged h accepts es) ∙ ap (beside f) (more d es (ap is_some p))

-- the errors of a list, one element on
module _ {A : Type 0} (err : A → Option FrameError) (list : List A) (i : ℕ) (d : A) (lt : i < length list) where
  pub next_error : (e : FrameError) → err (get_or list i d) ≡ Some e → filter_map err (drop i list) ≡ e ∷ filter_map err (drop (i + 1) list)
  next_error e q = ap (filter_map err) (drop_more list i d lt) ∙ ap (λ (o : Option FrameError). cons_option o (filter_map err (drop (i + 1) list))) q

  pub no_error : err (get_or list i d) ≡ None → filter_map err (drop i list) ≡ filter_map err (drop (i + 1) list)
  no_error q = ap (filter_map err) (drop_more list i d lt) ∙ ap (λ (o : Option FrameError). cons_option o (filter_map err (drop (i + 1) list))) q
