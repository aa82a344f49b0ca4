-- What is asked of the nodes of a chain.
use Rattle.std.proofs.Common.{◌≡◌, ℕ, zero, suc, ◌+◌, ◌<◌, Bool, List, [], ◌∷◌, map, length, get_or, set, take, drop, Some, None, Ok, Err, Option, sym, refl, ap, ◌∙◌, arith}
use Rattle.std.proofs.lemmas.List.{drop_more, get_or-map, length-map, map-set, set-get_or}
use Rattle.std.proofs.lemmas.Simd.{map-map}
use Rattle.std.specs.List.{filter_map}
use Rattle.vocabulary.specs.declared.fault.HostFault.{HostFault}
use Rattle.vocabulary.specs.declared.frame_error.FrameError.{FrameError}
use Rattle.vocabulary.specs.declared.policy.Pair.{Pair}
use Rattle.model.specs.Host.{Errors, Lawful}
use Rattle.host.specs.Findings.{findings_of, retries}
use Rattle.host.specs.declared.judge.Findings.{Findings}
use Rattle.trees.specs.Trees.{Tree}
use Rattle.nodes.specs.declared.node.Node.{Node}
use mathlib.Core.Logic.{∥∥₁_elim}
use native.Mathlib.Bridge.{le_prop}
use Rattle.nodes.specs.Begins.{Flat, Flattens}
use Rattle.nodes.specs.Breadth.{Item, breadth_first}
use Rattle.nodes.specs.Check.{blank}
use Rattle.nodes.specs.Flattening.{flattening, listed, unlisted}
use Rattle.nodes.specs.Nodes.{Content, nodes_of}
use Rattle.nodes.proofs.Rebuild.{flattening-length, unlisted-listed}
use Rattle.readings.specs.Readings.{cause, class_of, errors_of, first_not_live, marker_in, report_pairs, verdict_of}
use Rattle.readings.specs.Back.{from_back}
use Rattle.readings.specs.Seen.{Seen, nothing, ◌or◌, ◌with◌, node_seen}
use Rattle.readings.proofs.Explicit.{listed-live}
use Rattle.readings.proofs.Laws.{first_not_live_by_frames}
use Rattle.listed_readings.specs.Judged.{frame_error, if_live, judged}
use Rattle.listed_readings.specs.NodesBack.{content_seen, nodes_back}
use Rattle.listed_readings.proofs.Causes.{cause_by_nodes}
use Rattle.listed_readings.proofs.Judging.{frame_errors_of_nodes, judged_by_frames, retries_as_verdict}
use Rattle.questions.specs.Answers.{ChainAnswer}
use Rattle.nodes.specs.Notes.{cleared}
use Rattle.questions.specs.Noted.{noted}
use Rattle.questions.proofs.Gathering.{Gathered, gathered_alone, gathered_more, parent_before, shown_from}

module _ (h : Errors) (span : ℕ) (l : Lawful h span) (xs : List Node) (t : Tree) (w : Flattens h xs t) where
  -- all errors of a chain are live
  live : first_not_live h (errors_of h t) ≡ None
  live = first_not_live_by_frames h span l t ∙ listed-live h t w.live

  -- what is judged along the nodes of a chain
  pub judged_nodes : (accepts : Pair → Bool) → judged h accepts (filter_map frame_error xs) ≡ Ok (findings_of accepts (report_pairs h t))
  judged_nodes accepts =
      ap (λ (ys : List Node). judged h accepts (filter_map frame_error ys)) (sym w.lists)
      ∙ ap (judged h accepts) (frame_errors_of_nodes h t)
      ∙ judged_by_frames h span l accepts t
      ∙ ap (λ (o : Option ℕ). if_live o (findings_of accepts (report_pairs h t))) live

  -- a chain that was checked is judged
  pub judged_chain : (accepts : Pair → Bool) (f : Findings) → Ok f ≡ judged h accepts (filter_map frame_error xs) → f ≡ findings_of accepts (report_pairs h t)
  judged_chain accepts f q = let e : Ok f ≡ Ok (findings_of accepts (report_pairs h t)) = q ∙ judged_nodes accepts in cc

  pub judged_refused : (accepts : Pair → Bool) (f : HostFault) → Err f ≡ judged h accepts (filter_map frame_error xs) → ⊥
  judged_refused accepts f q = let e : Err f ≡ Ok (findings_of accepts (report_pairs h t)) = q ∙ judged_nodes accepts in absurd cc

module _ (h : Errors) (xs : List Node) (t : Tree) (w : Flattens h xs t) where
  -- the nodes as items
  pub items : map unlisted xs ≡ breadth_first (nodes_of h t)
  unfolding flattening
  items = ap (map unlisted) (sym w.lists) ∙ unlisted-listed (breadth_first (nodes_of h t))

  pub some : 0 < length xs
  some = let a = flattening-length h t in let b = ap (λ (ys : List Node). length ys) w.lists in omega arith

  -- they have no notes
  pub unnoted : map cleared xs ≡ xs
  unfolding flattening
  unnoted = ap (map cleared) (sym w.lists) ∙ map-map cleared listed (breadth_first (nodes_of h t)) ∙ w.lists

-- what the nodes from `n` on show stands in the notes of those before it, and nothing else in the list has changed
pub record Noting (h : Errors) (before now : List Node) (n : ℕ) : Type 0 where
  pub low : 0 < length before → 0 < n
  pub same : map cleared now ≡ map cleared before
  pub gathered : Gathered unlisted before (λ (x : Node). noted x.note) blank (content_seen h) n now

module _ (h : Errors) (before : List Node) where
  module _ (now : List Node) (n : ℕ) (v : Noting h before now n) where
    same_length : length now ≡ length before
    same_length = sym (length-map now cleared) ∙ ap (λ (ys : List Node). length ys) v.same ∙ length-map before cleared

    same_item : (i : ℕ) → i < length now → unlisted (get_or before i blank) ≡ unlisted (get_or now i blank)
    same_item i lt =
        let n = same_length in
        ap unlisted (sym (get_or-map cleared before i blank blank (omega arith)) ∙ ap (λ (ys : List Node). get_or ys i blank) (sym v.same) ∙ get_or-map cleared now i blank blank lt)

    -- each node stands behind its parent
    pub inside : (i j : ℕ) → ∥ Flat h before ∥₁ → i < length now → (get_or now i blank).parent ≡ Some j → j < length now
    inside i j flat lt q =
        ∥∥₁_elim flat le_prop (λ f.
        let n = same_length in
        let less = parent_before unlisted before (nodes_of h f.0) (items h before f.0 f.1) i j blank (omega arith) (ap (λ (x : Item Content). x.parent) (same_item i lt) ∙ q) in
        omega arith)

    pub begun : ∥ Flat h before ∥₁ → 0 < length now
    begun flat = ∥∥₁_elim flat le_prop (λ f. let n = same_length in let m = some h before f.0 f.1 in omega arith)

    -- one turn
    module _ (i : ℕ) (next : i + 1 ≡ n) (lt : i < length now) where
      fit : i < length before
      fit = let n = same_length in omega arith

      pub noting_alone : 0 < i → (get_or now i blank).parent ≡ None → Noting h before now i
      noting_alone low q = record {
        low = λ _. low;
        same = v.same;
        gathered = gathered_alone unlisted before (λ (x : Node). noted x.note) blank (content_seen h) n i now next blank v.gathered fit (ap (λ (x : Item Content). x.parent) (same_item i lt) ∙ q);
      }

      pub noting_more : 0 < i → (j : ℕ) (x : Node) (s : Seen FrameError) → (get_or now i blank).parent ≡ Some j → j < length now → cleared x ≡ cleared (get_or now j blank)
          → s ≡ node_seen (marker_in h (get_or now i blank).error) (get_or now i blank).error (noted (get_or now i blank).note) → noted x.note ≡ (noted (get_or now j blank).note with s) → Noting h before (set now j x) i
      noting_more low j x s q there kept what is = record {
        low = λ _. low;
        same = map-set cleared now j x ∙ ap (set (map cleared now) j) (kept ∙ sym (get_or-map cleared now j blank blank there)) ∙ set-get_or (map cleared now) j blank ∙ v.same;
        gathered = gathered_more unlisted before (λ (x : Node). noted x.note) blank (content_seen h) n i now next blank v.gathered fit j x s (ap (λ (x : Item Content). x.parent) (same_item i lt) ∙ q) there
            (what ∙ ap (λ (x : Item Content). content_seen h x.value (noted (get_or now i blank).note)) (sym (same_item i lt))) is;
      }

    -- after the last turn
    module _ (t : Tree) (w : Flattens h before t) where
      rest : (ys : List Node) → drop 1 (map unlisted ys) ≡ map unlisted (drop 1 ys)
      rest [] = refl
      rest (y ∷ ys) = refl

      pub noting_cause : n ≡ 1 → (s : Seen FrameError) → s ≡ node_seen (marker_in h (get_or now 0 blank).error) (get_or now 0 blank).error (noted (get_or now 0 blank).note) → (s or (get_or now 0 blank).error) ≡ cause h t
      noting_cause one s q =
          let long = some h before t w in
          let len = same_length in
          let root = same_item 0 (omega arith) in
          let shows : noted (get_or now 0 blank).note ≡ nodes_back h 1 (drop 1 before) (Some 0) =
          v.gathered.shows 0 (omega arith) ∙ ap (λ (k : ℕ). shown_from unlisted before (λ (x : Node). noted x.note) blank (content_seen h) k (Some 0)) one ∙ ap (λ (ys : List (Item Content)). from_back ◌with◌ nothing (content_seen h) 1 ys (Some 0)) (rest before) in
          ap (λ (k : Seen FrameError). k or (get_or now 0 blank).error) (q ∙ ap (node_seen (marker_in h (get_or now 0 blank).error) (get_or now 0 blank).error) shows)
          ∙ ap (λ (x : Item Content). node_seen (marker_in h x.value.error) x.value.error (nodes_back h 1 (drop 1 before) (Some 0)) or x.value.error) (sym root)
          ∙ sym (cause_by_nodes h t (get_or before 0 blank) (drop 1 before) (w.lists ∙ drop_more before 0 blank long))

-- as many nodes as a front has are the front
pub front_part : (k : ℕ) (xs : List Node) → take (length (take k xs)) xs ≡ take k xs
front_part zero xs = refl
front_part (suc k) [] = refl
front_part (suc k) (x ∷ xs) = ap (λ (ys : List Node). x ∷ ys) (front_part k xs)

-- class and verdict are those of the findings
module _ (h : Errors) (xs : List Node) (accepts : Pair → Bool) (f : Findings) (q : ChainAnswer h xs (λ t. findings_of accepts (report_pairs h t)) (Ok f)) where
  pub class_made : ChainAnswer h xs (class_of h) (Ok f.class)
  class_made = (q.0, λ t w. ap (λ (k : Findings). k.class) (q.1 t w) ∙ (retries_as_verdict h accepts t).0)

  pub verdict_made : (r : Bool) → r ≡ retries f → ChainAnswer h xs (verdict_of h accepts) (Ok r)
  verdict_made r e = (q.0, λ t w. e ∙ ap retries (q.1 t w) ∙ (retries_as_verdict h accepts t).1)
