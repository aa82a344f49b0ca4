-- A run goes on by one event, and readings by one report.
use Rattle.std.proofs.Common.{ℕ, Bool, List, [], ◌∷◌, ◌++◌, Option, refl, subst}
use Rattle.vocabulary.specs.declared.policy.Pair.{Pair}
use Rattle.runs.specs.Law.{AllRead, Ran, ReadIf, tree_named}
use Rattle.runs.specs.declared.call.Reading.{Reading}
use Rattle.runs.specs.State.{State}
use Rattle.runs.specs.Step.{Step}
use Rattle.runs.specs.declared.call.Answer.{Answer}
use Rattle.runs.specs.declared.call.Event.{Event}

pub ran_more : {A : Type 0} (first : State) (es : List (Event A)) (answers : List Answer) (mid last : State) (e : Event A) (a : Answer) → Ran first es answers mid → Step mid e a last → Ran first (es ++ e ∷ []) (answers ++ a ∷ []) last
ran_more first [] [] mid last e a r s = (last, subst (λ (m : State). Step m e a last) r s, refl)
ran_more first [] (b ∷ bs) mid last e a r s = absurd r
ran_more first (d ∷ ds) [] mid last e a r s = absurd r
ran_more first (d ∷ ds) (b ∷ bs) mid last e a r s = (r.0, r.1, ran_more r.0 ds bs mid last e a r.2 s)

-- one report more is read
pub read_more : (st : State) (accepts : Pair → Bool) (ns : List (Option ℕ)) (os : List (Option Reading)) (n : Option ℕ) (o : Option Reading) → AllRead st accepts ns os → ReadIf st.errors accepts (tree_named st n) o
    → AllRead st accepts (ns ++ n ∷ []) (os ++ o ∷ [])
read_more st accepts [] [] n o a r = (r, tt)
read_more st accepts [] (p ∷ ps) n o a r = absurd a
read_more st accepts (m ∷ ms) [] n o a r = absurd a
read_more st accepts (m ∷ ms) (p ∷ ps) n o a r = (a.0, read_more st accepts ms ps n o a.1 r)
