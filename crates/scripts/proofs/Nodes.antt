-- How many nodes a report over the drive has: beneath each frame two sources at most.
use Rattle.std.proofs.Common.{◌≡◌, ℕ, ◌+◌, ◌*◌, ◌<◌, ◌≤◌, zero, suc, List, [], ◌∷◌, length, nat_lt, Some, None, Option, sym, refl, ap, subst, ltb-true, ltb-false, arith}
use Rattle.std.proofs.lemmas.Bool.{cond_both}
use Rattle.std.specs.Option.{option_map}
use mathlib.Core.Logic.{∥∥₁_elim}
use native.Mathlib.Bridge.{le_prop}
use Rattle.vocabulary.specs.IoKind.{io_kind_at}
use Rattle.vocabulary.specs.declared.frame_error.FrameError.{FrameError}
use Rattle.vocabulary.specs.declared.frame_error.FrameError.TheVariants.{Host}
use Rattle.vocabulary.specs.declared.io_kind.IoKind.{IoKind}
use Rattle.model.specs.Host.{Error}
use Rattle.model.specs.Sources.{bound, chain_up_to, source_of}
use Rattle.drive_host.specs.Drive.{drive, drive_errors, gate, gauge, gauge_error}
use Rattle.trees.specs.Trees.{Forest, empty, tree, Tree, frames, only}
use Rattle.trees.proofs.Numbered.{counted}
use Rattle.nodes.specs.Flattening.{flattening}
use Rattle.nodes.specs.Nodes.{Nodes, expand, natives, sources_of}
use Rattle.nodes.specs.Rows.{count, ◌beside◌, none, node}
use Rattle.nodes.proofs.Rebuild.{flattening-length}
use Rattle.frames.specs.declared.store.Frames.{Frames}
use Rattle.frames.specs.Of.{reports_of}
use Rattle.shown_links.proofs.Beside.{count_beside}
use Rattle.frames.proofs.Placed.{placed_in}

-- a source, if there is one, is below a limit
abbrev Below : ℕ → Option ℕ → Type 0
Below n None = Unit {0}
Below n (Some d) = d < n

gauge_source : (e : ℕ) (o : Option IoKind) → source_of (option_map (gauge_error e) o) ≡ None
gauge_source e None = refl
gauge_source e (Some i) = refl

-- a gauge has no source, a drive has a gauge, and a gate a drive
first_source : (e : ℕ) → e < 16 → source_of (drive_errors e) ≡ None
first_source e h =
    cond_both (nat_lt e 16) (gauge e) (drive e) (λ (o : Option Error). source_of o ≡ None) (λ _. gauge_source e (io_kind_at e)) (λ f. let above = ltb-false e 16 f in absurd (omega arith))

second_source : (e : ℕ) → e < 32 → Below 16 (source_of (drive_errors e))
second_source e h =
    cond_both (nat_lt e 16) (gauge e) (drive e) (λ (o : Option Error). Below 16 (source_of o)) (λ _. subst (Below 16) (sym (gauge_source e (io_kind_at e))) tt) (λ _.
    cond_both (nat_lt e 32) _ (gate e) (λ (o : Option Error). Below 16 (source_of o)) (λ _. omega arith) (λ f. let above = ltb-false e 32 f in absurd (omega arith)))

any_source : (e : ℕ) → Below 32 (source_of (drive_errors e))
any_source e =
    cond_both (nat_lt e 16) (gauge e) (drive e) (λ (o : Option Error). Below 32 (source_of o)) (λ _. subst (Below 32) (sym (gauge_source e (io_kind_at e))) tt) (λ _.
    cond_both (nat_lt e 32) _ (gate e) (λ (o : Option Error). Below 32 (source_of o)) (λ t. let below = ltb-true e 32 t in omega arith) (λ _.
    cond_both (nat_lt e 48) _ None (λ (o : Option Error). Below 32 (source_of o)) (λ t. let below = ltb-true e 48 t in omega arith) (λ _. tt)))

none_few : (limit : ℕ) → length (chain_up_to drive_errors limit None) ≤ 0
unfolding chain_up_to
none_few zero = omega arith
none_few (suc limit) = omega arith

one_few : (limit : ℕ) (o : Option ℕ) → Below 16 o → length (chain_up_to drive_errors limit o) ≤ 1
unfolding chain_up_to
one_few zero o h = omega arith
one_few (suc limit) None h = omega arith
one_few (suc limit) (Some d) h =
    let a = none_few limit in
    let e = ap (λ (p : Option ℕ). length (chain_up_to drive_errors limit p)) (first_source d h) in
    omega arith

two_few : (limit : ℕ) (o : Option ℕ) → Below 32 o → length (chain_up_to drive_errors limit o) ≤ 2
unfolding chain_up_to
two_few zero o h = omega arith
two_few (suc limit) None h = omega arith
two_few (suc limit) (Some d) h = let a = one_few limit (source_of (drive_errors d)) (second_source d h) in omega arith

sources_few : (e : FrameError) → length (sources_of drive_errors e) ≤ 2
sources_few (Host e) = two_few (bound (source_of (drive_errors e))) (source_of (drive_errors e)) (any_source e)

natives_count : (p : ℕ) (ds : List ℕ) → count (natives p ds) ≡ length ds
natives_count p [] = refl
natives_count p (d ∷ ds) = let e = natives_count p ds in omega arith

expand_few : (f : Forest) → count (expand drive_errors f) ≤ 3 * frames f
expand_few empty = omega arith
expand_few (tree e p c r) =
    let a = expand_few c in
    let b = expand_few r in
    let s = sources_few e in
    let n = natives_count p (sources_of drive_errors e) in
    let m = count_beside (natives p (sources_of drive_errors e)) (expand drive_errors c) in
    omega arith

nodes_few : (t : Tree) → frames t.children + 1 ≤ 1024 → length (flattening drive_errors t) ≤ 3072
nodes_few t few = let a = expand_few (only t) in let b = flattening-length drive_errors t in omega arith

pub report_few : (s : Frames) (x : ℕ) (t : Tree) → reports_of s x ≡ Some t → length (flattening drive_errors t) ≤ 3072
report_few s x t is = ∥∥₁_elim (placed_in s x t is) le_prop (λ k. let n = counted k.0 in let m = ap frames k.1.children in let f = k.1.fits in nodes_few t (omega arith))
