-- The errors of a flattening are live.
use Rattle.std.proofs.Common.{◌≡◌, ℕ, zero, suc, Bool, true, false, cond, List, [], ◌∷◌, map, is_some, Some, None, sym, refl, ap, ◌∙◌, subst, arith}
use Rattle.vocabulary.specs.declared.frame_error.FrameError.{FrameError}
use Rattle.vocabulary.specs.declared.frame_error.FrameError.TheVariants.{Host}
use Rattle.model.specs.Host.{Errors, Lawful}
use Rattle.nodes.specs.declared.node.Node.{Node}
use Rattle.nodes.specs.Begins.{Flat}
use Rattle.nodes.specs.Notes.{cleared}
use Rattle.nodes.specs.Nodes.{LiveError}
use Rattle.readings.specs.Readings.{first_not_live}
use Rattle.readings.proofs.Explicit.{listed-live}
use Rattle.readings.proofs.Laws.{first_not_live_by_frames}
use Rattle.shown_links.proofs.Alike.{alike_at, alike_length}
use Rattle.prints.specs.Puts.{AllLive}

module _ (h : Errors) where
  first_live : (e : FrameError) (es : List FrameError) → first_not_live h (e ∷ es) ≡ None → LiveError h e × (first_not_live h es ≡ None)
  first_live (Host e) es q = go (is_some (h e)) q
    where
      go : (b : Bool) → cond b (first_not_live h es) (Some e) ≡ None → (b ≡ true) × (first_not_live h es ≡ None)
      go true q = (refl, q)
      go false q = absurd cc

  pub each_live : (xs : List Node) → first_not_live h (map (λ (x : Node). x.error) xs) ≡ None → AllLive h xs
  each_live [] q k lt = absurd (omega arith)
  each_live (x ∷ xs) q zero lt = (first_live x.error (map (λ (x : Node). x.error) xs) q).0
  each_live (x ∷ xs) q (suc k) lt = each_live xs (first_live x.error (map (λ (x : Node). x.error) xs) q).1 k (omega arith)

  pub flat_live : (span : ℕ) → Lawful h span → (xs : List Node) → Flat h xs → AllLive h xs
  flat_live span l xs w =
      let t = w.0 in
      each_live xs (ap (λ (ys : List Node). first_not_live h (map (λ (x : Node). x.error) ys)) (sym w.1.lists) ∙ first_not_live_by_frames h span l t ∙ listed-live h t w.1.live)

-- lists whose nodes are alike have alike errors
pub live_alike : (h : Errors) (xs ys : List Node) → map cleared xs ≡ map cleared ys → AllLive h ys → AllLive h xs
live_alike h xs ys same live k lt =
    let n = alike_length cleared xs ys same in
    subst (LiveError h) (ap (λ (x : Node). x.error) (sym (alike_at cleared xs ys same k))) (live k (omega arith))
