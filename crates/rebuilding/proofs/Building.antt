-- How far the making of a tree has come: the trees of the nodes that wait are a row, the last of them first.
use Rattle.std.proofs.Common.{◌≡◌, ℕ, suc, ◌+◌, ◌-◌, ◌<◌, ◌≤◌, true, false, eqb, List, [], ◌∷◌, ◌++◌, map, reverse, length, get_or, take, drop, is_some, Some, None, Option, sym, refl, ap, ◌∙◌, subst, ap₂, ⊎_elim, append_assoc, add-zero, add-one, arith}
use Rattle.std.specs.Map.{update}
use Rattle.std.proofs.lemmas.List.{at_drop_all, at_drop_more, drop_at, drop-drop, drop-map, get_or-append-add, get_or_append_left, get_or-drop, length-append, length-map, length-reverse, map-append, reverse-append, reverse-reverse, take-append-drop, take_at, take-map}
use Rattle.std.proofs.lemmas.Bool.{cases_order, cond-true, cond-false, true≢false}
use Rattle.model.specs.Host.{Errors}
use Rattle.trees.specs.Counting.{in_row, unused, used}
use Rattle.trees.specs.Listings.{first_of, opened, rest_of}
use Rattle.trees.proofs.Counting.{used_same, used_row}
use Rattle.trees.specs.Trees.{Forest, empty, Tree, only, frames, ◌then◌, leaf, Listing, forest, first_root}
use Rattle.layout.specs.declared.frame.Frame.{Frame}
use Rattle.layout.specs.Reports.{Means, reports, rows}
use Rattle.nodes.specs.declared.node.Node.{Node}
use Rattle.nodes.specs.Begins.{Flattens}
use Rattle.nodes.specs.Breadth.{Entry, is_parent, item, under}
use Rattle.nodes.specs.Check.{blank, node_at, explicit_count}
use Rattle.nodes.specs.Flattening.{flattening, listed}
use Rattle.nodes.specs.Nodes.{Content, explicit, expand, nodes_of, sources_of}
use Rattle.nodes.specs.Queue.{queue}
use Rattle.nodes.specs.Rows.{count}
use Rattle.nodes.proofs.Explicit.{explicit-frames}
use Rattle.nodes.proofs.Queue.{weight-length, breadth_queue, weight-under}
use Rattle.nodes.proofs.Rebuild.{all_before_roots, explicit-expand, explicit-natives, flattening-length}
use Rattle.rebuilding.specs.declared.build.Children.{Children}
use Rattle.rebuilding.specs.Steps.{adopting, WithRow, Added, Found, Fits, Built}
use Rattle.rebuilding.proofs.Append.{known_row, taken_out}
use Rattle.rebuilding.proofs.Beside.{first_new, no_row}
use Rattle.rebuilding.proofs.Entries.{as_node, listed_items, tree_in, trees, trees_append, count-trees, forest_of, forest-under, trees_of, forest-trees, trees-reverse, forest_append, reverse-one, then_empty, frames_then, frames-reverse, fewer, AllBare, bare-expand, bare-under, bare_waiting, source_childless, early_parents, child_parents}
use Rattle.rebuilding.proofs.Turns.{waiting, weightless, At, Turn, after, at, turn_at, ahead}

-- the roots that wait before the first node is listed
abbrev pub roots : Errors → Tree → List (Entry Content)
roots h t = under None (nodes_of h t)

-- the nodes from `i` on are made
pub record Building (before fs : List Frame) (nodes : List Node) (head : Option ℕ) (end i : ℕ) (h : Errors) (t : Tree) : Type 0 where
  pub row : Listing
  pub held : WithRow before fs head row
  pub made : trees_of row ≡ reverse (trees (waiting (roots h t) i))
  pub counted : frames (forest row) ≡ explicit_count (drop i nodes)
  pub ends : end ≡ i + length (waiting (roots h t) i)

-- there is a frame for each node that is no source
pub fits_room : (h : Errors) (nodes : List Node) (t : Tree) (fs : List Frame) → Fits h nodes t fs → explicit_count nodes ≤ unused (reports fs) (rows fs)
fits_room h nodes t fs f = let a = explicit-frames h nodes t f.flattens in let b = f.room in omega arith

-- the frames that are used more than before
used_more : (before fs : List Frame) (head : Option ℕ) (row : Listing) → WithRow before fs head row → used (reports fs) (rows fs) ≡ used (reports before) (rows before) + frames (forest row)
used_more before fs head [] w = let a = used_same (reports fs) (reports before) (rows fs) (rows before) w.means.reports w.means.rows in omega arith
used_more before fs head (y ∷ ys) w =
    let a = used_same (reports fs) (reports before) (rows fs) (update eqb (rows before) y.0 (Some (y ∷ ys))) w.means.reports w.means.rows in
    let new = first_new before y ys w.new in
    let b = used_row (reports before) (rows before) y.0 (Some (y ∷ ys)) new.below in
    let c : in_row (rows before y.0) ≡ 0 = ap in_row (no_row before y.0 new.fresh) in
    omega arith

module _ (h : Errors) (nodes : List Node) (t : Tree) (flat : Flattens h nodes t) where
  total : ℕ
  total = count (nodes_of h t)

  long : length nodes ≡ total
  unfolding total
  long = ap (λ (xs : List Node). length xs) (sym flat.lists) ∙ flattening-length h t

  nodes_are : nodes ≡ map listed (queue total 0 (roots h t))
  unfolding total flattening
  nodes_are = sym flat.lists ∙ ap (map listed) (breadth_queue (nodes_of h t))

  stands : (n : ℕ) → n ≤ length nodes → At (roots h t) total n
  unfolding total
  stands n le = let l = long in at (roots h t) total (weight-under None (nodes_of h t)) (all_before_roots (nodes_of h t)) n (omega arith)

  -- the nodes from `n` on begin with those that wait
  record Listed (n : ℕ) : Type 0 where
    tail : List Node
    lists : drop n nodes ≡ map as_node (waiting (roots h t) n) ++ tail

  listed_at : (n : ℕ) → n ≤ length nodes → Listed n
  listed_at n le =
      let a = ahead (roots h t) total n (stands n le) in
      record {
        tail = map listed a.tail;
        lists = ap (drop n) nodes_are ∙ drop-map listed n (queue total 0 (roots h t)) ∙ ap (map listed) a.lists ∙ map-append listed (map item (waiting (roots h t) n)) a.tail
            ∙ ap (λ (xs : List Node). xs ++ map listed a.tail) (listed_items (waiting (roots h t) n));
      }

  end_within : (n : ℕ) → n ≤ length nodes → n + length (waiting (roots h t) n) ≤ length nodes
  end_within n le = let a = stands n le in let b = a.sums in let c = a.loaded in let d = weight-length (waiting (roots h t) n) in let l = long in omega arith

  -- nothing is made at first
  pub building_none : (before : List Frame) → Building before before nodes None (length nodes) (length nodes) h t
  building_none before =
      let n : ℕ = length nodes in
      let a = stands n (omega arith) in
      let s = a.sums in
      let w = a.loaded in
      let l = long in
      let e : waiting (roots h t) n ≡ [] = weightless (waiting (roots h t) n) (omega arith) in
      record {
        row = [];
        held = record { first = refl; new = λ k q. absurd (true≢false (sym q)); means = record { reports = λ j. refl; rows = λ j. refl } };
        made = sym (ap (λ (ws : List (Entry Content)). reverse (trees ws)) e);
        counted = sym (at_drop_all explicit_count nodes n (omega arith));
        ends = let z : length (waiting (roots h t) n) ≡ 0 = ap (λ (ws : List (Entry Content)). length ws) e in omega arith;
      }

  module _ (n : ℕ) (lt : n < length nodes) where
    turn : Turn (roots h t) total n
    unfolding total
    turn = let l = long in turn_at (roots h t) total (weight-under None (nodes_of h t)) (all_before_roots (nodes_of h t)) n (omega arith)

    first : Entry Content
    first = turn.first

    others : List (Entry Content)
    others = turn.others

    kids : List (Entry Content)
    kids = under (Some n) turn.first.children

    now_waits : waiting (roots h t) n ≡ first ∷ others
    unfolding first others
    now_waits = turn.is

    then_waits : waiting (roots h t) (suc n) ≡ others ++ kids
    unfolding others kids
    then_waits = after (roots h t) total n turn

    -- the node
    node_is : node_at nodes n ≡ as_node first
    node_is =
        let l = listed_at n (omega arith) in
        ap (node_at nodes) (sym (add-zero n)) ∙ sym (get_or-drop n nodes 0 blank)
        ∙ ap (λ (xs : List Node). get_or xs 0 blank) (l.lists ∙ ap (λ (ws : List (Entry Content)). map as_node ws ++ l.tail) now_waits)

    -- the nodes after it
    behind : drop (suc n) nodes ≡ map as_node others ++ (map as_node kids ++ (listed_at (suc n) lt).tail)
    behind =
        let l = listed_at (suc n) lt in
        l.lists ∙ ap (λ (ws : List (Entry Content)). map as_node ws ++ l.tail) then_waits ∙ ap (λ (xs : List Node). xs ++ l.tail) (map-append as_node others kids)
        ∙ append_assoc (map as_node others) (map as_node kids) l.tail

    -- the frames from it on
    frames_here : explicit_count (drop n nodes) ≡ explicit_count (node_at nodes n ∷ drop (suc n) nodes)
    frames_here = at_drop_more explicit_count nodes n blank lt ∙ ap (λ (j : ℕ). explicit_count (node_at nodes n ∷ drop j nodes)) (add-one n)

    at_other : (k : ℕ) → k < length others → is_parent n (node_at nodes (suc n + k)).parent ≡ false
    unfolding first others
    at_other k b =
        let l = length-map others as_node in
        ap (λ (x : Node). is_parent n x.parent) (sym (get_or-drop (suc n) nodes k blank) ∙ ap (λ (xs : List Node). get_or xs k blank) behind ∙ get_or_append_left (map as_node others) (map as_node kids ++ (listed_at (suc n) lt).tail) blank k (omega arith))
        ∙ early_parents n others turn.early.1 k b

    at_kid : (k : ℕ) → k < length kids → is_parent n (node_at nodes (suc n + (length others + k))).parent ≡ true
    unfolding kids
    at_kid k b =
        let l = length-map others as_node in
        let m = length-map kids as_node in
        ap (λ (x : Node). is_parent n x.parent)
        (sym (get_or-drop (suc n) nodes (length others + k) blank) ∙ ap (λ (xs : List Node). get_or xs (length others + k) blank) behind
        ∙ ap (λ (j : ℕ). get_or (map as_node others ++ (map as_node kids ++ (listed_at (suc n) lt).tail)) (j + k) blank) (sym l)
        ∙ get_or-append-add (map as_node others) (map as_node kids ++ (listed_at (suc n) lt).tail) k blank
        ∙ get_or_append_left (map as_node kids) (listed_at (suc n) lt).tail blank k (omega arith))
        ∙ child_parents n turn.first.children k b

    both_long : length (waiting (roots h t) (suc n)) ≡ length others + length kids
    both_long = ap (λ (ws : List (Entry Content)). length ws) then_waits ∙ length-append others kids

    module _ (end : ℕ) (ends : end ≡ suc n + length (waiting (roots h t) (suc n))) where
      -- the children are looked for among the nodes
      pub sought : (n < end) × (end ≤ length nodes)
      sought = (omega arith, (let e = end_within (suc n) lt in omega arith))

      module _ (r : Children) (f : Found nodes n end r) where
        start_is : r.start ≡ suc n + length others
        start_is =
            let e = both_long in
            let low = f.low in
            ⊎_elim (λ q. q) (λ q. ⊎_elim too_low too_high q) (cases_order r.start (suc n + length others))
          where
            too_low : r.start < suc n + length others → r.start ≡ suc n + length others
            too_low q =
                let low = f.low in
                let e = both_long in
                let k : ℕ = r.start - suc n in
                let same : suc n + k ≡ r.start = omega arith in
                absurd (true≢false (sym (f.are r.start (omega arith) (omega arith)) ∙ ap (λ (j : ℕ). is_parent n (node_at nodes j).parent) (sym same) ∙ at_other k (omega arith)))

            too_high : suc n + length others < r.start → r.start ≡ suc n + length others
            too_high q =
                let high = f.high in
                let e = both_long in
                let k : ℕ = (r.start - 1) - (suc n + length others) in
                let same : suc n + (length others + k) ≡ r.start - 1 = omega arith in
                absurd (true≢false (sym (at_kid k (omega arith)) ∙ ap (λ (j : ℕ). is_parent n (node_at nodes j).parent) same ∙ f.ends (omega arith)))

        frames_are : r.frames ≡ length (trees kids)
        frames_are =
            let e = both_long in
            let s = start_is in
            let l = length-map others as_node in
            let m = length-map kids as_node in
            let there : drop r.start nodes ≡ map as_node kids ++ (listed_at (suc n) lt).tail =
            ap (λ (j : ℕ). drop j nodes) s ∙ sym (drop-drop (length others) (suc n) nodes) ∙ ap (drop (length others)) behind ∙ drop_at (map as_node others) (map as_node kids ++ (listed_at (suc n) lt).tail) (length others) l in
            f.frames ∙ ap (λ (xs : List Node). explicit_count (take (end - r.start) xs)) there
            ∙ ap explicit_count (take_at (map as_node kids) (listed_at (suc n) lt).tail (end - r.start) (omega arith)) ∙ count-trees kids

        module _ (before fs : List Frame) (head : Option ℕ) (b : Building before fs nodes head end (suc n) h t) where
          rows_are : trees_of b.row ≡ reverse (trees kids) ++ reverse (trees others)
          rows_are = b.made ∙ ap (λ (ws : List (Entry Content)). reverse (trees ws)) then_waits ∙ ap reverse (trees_append others kids) ∙ reverse-append (trees others) (trees kids)

          kids_long : length (reverse (trees kids)) ≡ r.frames
          kids_long = length-reverse (trees kids) ∙ sym frames_are

          -- there are as many reports in the row
          pub enough : r.frames ≤ length b.row
          enough =
              let a = kids_long in
              let l : length (trees_of b.row) ≡ length (reverse (trees kids) ++ reverse (trees others)) = ap (λ (ts : List Tree). length ts) rows_are in
              let m = length-map b.row (λ (x : ℕ × Tree). x.1) in
              let s = length-append (reverse (trees kids)) (reverse (trees others)) in
              omega arith

          start_ends : r.start ≡ n + length (waiting (roots h t) n)
          start_ends = let s = start_is in let e : length (waiting (roots h t) n) ≡ length (first ∷ others) = ap (λ (ws : List (Entry Content)). length ws) now_waits in omega arith

          -- a source has no frame
          pub building_source : (node_at nodes n).native ≡ true → Building before fs nodes head r.start n h t
          unfolding first others kids
          building_source q =
              let source : first.value.native ≡ true = ap (λ (x : Node). x.native) (sym node_is) ∙ q in
              let bare : AllBare (first ∷ others) = subst AllBare now_waits (bare_waiting (roots h t) (bare-under None (nodes_of h t) (bare-expand h (only t))) n) in
              let childless : trees kids ≡ [] = source_childless (Some n) first.children (bare.0 source) in
              record {
                row = b.row;
                held = b.held;
                made = rows_are ∙ ap (λ (ts : List Tree). reverse ts ++ reverse (trees others)) childless
                    ∙ sym (ap (λ (ws : List (Entry Content)). reverse (trees ws)) now_waits ∙ ap reverse (cond-true first.value.native (trees others) (tree_in first ∷ trees others) source));
                counted = b.counted ∙ sym (frames_here ∙ cond-true (node_at nodes n).native _ _ q);
                ends = start_ends;
              }

          -- a frame takes its children out of the row, and stands at its end
          module _ (q : (node_at nodes n).native ≡ false) where
            frame : first.value.native ≡ false
            frame = ap (λ (x : Node). x.native) (sym node_is) ∙ q

            frame_counts : explicit_count (drop n nodes) ≡ frames (forest b.row) + 1
            frame_counts = frames_here ∙ cond-false (node_at nodes n).native _ _ q ∙ ap (λ (m : ℕ). m + 1) (sym b.counted)

            -- so there is a frame for it
            pub room : explicit_count nodes ≤ unused (reports before) (rows before) → 0 < unused (reports fs) (rows fs)
            room le =
                let u = used_more before fs head b.row b.held in
                let c = frame_counts in
                let d = fewer n nodes in
                omega arith

            abbrev first_tree : Tree
            first_tree = adopting (leaf (node_at nodes n).error (node_at nodes n).place) (take r.frames b.row)

            tree_is : first_tree ≡ tree_in first
            unfolding first kids
            tree_is =
                let under_it : forest (reverse (take r.frames b.row)) then empty ≡ explicit first.children =
                then_empty _ ∙ forest-trees (reverse (take r.frames b.row))
                ∙ ap forest_of (trees-reverse (take r.frames b.row) ∙ ap reverse (sym (take-map (λ (x : ℕ × Tree). x.1) r.frames b.row) ∙ ap (take r.frames) rows_are ∙ take_at (reverse (trees kids)) (reverse (trees others)) r.frames kids_long) ∙ reverse-reverse (trees kids))
                ∙ forest-under (Some n) first.children in
                λ i. record { error = (node_is i).error; place = (node_is i).place; children = under_it i }

            pub building_frame : (after : List Frame) (answer : Option ℕ) → Added before after (drop r.frames b.row) first_tree answer → Building before after nodes answer r.start n h t
            building_frame after answer a =
                let rest : trees_of (drop r.frames b.row) ≡ reverse (trees others) =
                sym (drop-map (λ (x : ℕ × Tree). x.1) r.frames b.row) ∙ ap (drop r.frames) rows_are ∙ drop_at (reverse (trees kids)) (reverse (trees others)) r.frames kids_long in
                let shape : forest b.row ≡ forest (take r.frames b.row) then forest (drop r.frames b.row) =
                ap forest (sym (take-append-drop r.frames b.row)) ∙ forest_append (take r.frames b.row) (drop r.frames b.row) in
                let s : frames (forest b.row) ≡ frames (forest (take r.frames b.row)) + frames (forest (drop r.frames b.row)) =
                ap frames shape ∙ frames_then (forest (take r.frames b.row)) (forest (drop r.frames b.row)) in
                let u : frames (forest (drop r.frames b.row ++ (a.root, first_tree) ∷ [])) ≡ frames (forest (drop r.frames b.row)) + frames (forest ((a.root, first_tree) ∷ [])) =
                ap frames (forest_append (drop r.frames b.row) ((a.root, first_tree) ∷ [])) ∙ frames_then (forest (drop r.frames b.row)) (forest ((a.root, first_tree) ∷ [])) in
                let v = frames_then (forest (reverse (take r.frames b.row))) empty in
                let w = frames-reverse (take r.frames b.row) in
                let c = frame_counts in
                record {
                  row = drop r.frames b.row ++ (a.root, first_tree) ∷ [];
                  held = a.held;
                  made = map-append (λ (x : ℕ × Tree). x.1) (drop r.frames b.row) ((a.root, first_tree) ∷ []) ∙ ap₂ (λ (ts : List Tree) (x : Tree). ts ++ x ∷ []) rest tree_is
                      ∙ sym (ap (λ (ws : List (Entry Content)). reverse (trees ws)) now_waits ∙ ap reverse (cond-false first.value.native (trees others) (tree_in first ∷ trees others) frame) ∙ reverse-one (tree_in first) (trees others));
                  counted = omega arith;
                  ends = start_ends;
                }

  -- at the end the row is the tree
  module _ (before fs : List Frame) (head : Option ℕ) (end : ℕ) (b : Building before fs nodes head end 0 h t) where
    root_is : trees_of b.row ≡ t ∷ []
    root_is = b.made ∙ ap (λ (f : Forest). record { error = t.error; place = t.place; children = f } ∷ []) (explicit-natives t.place (sources_of h t.error) (expand h t.children) ∙ explicit-expand h t.children)

    alone : (x : ℕ) × (b.row ≡ (x, t) ∷ [])
    alone = go b.row root_is
      where
        go : (row : Listing) → trees_of row ≡ t ∷ [] → (x : ℕ) × (row ≡ (x, t) ∷ [])
        go [] e = absurd (cc)
        go (y ∷ []) e = (y.0, ap (λ (u : Tree). (y.0, u) ∷ []) (let same : y.1 ≡ t = cc in same))
        go (y ∷ (z ∷ row)) e = absurd (let more : z.1 ∷ trees_of row ≡ [] = cc in cc)

    pub head_there : is_some head ≡ true
    head_there = ap is_some (b.held.first ∙ ap first_root alone.1)

    module _ (root : ℕ) (is : head ≡ Some root) where
      same : alone.0 ≡ root
      same = let e : Some alone.0 ≡ Some root = sym (b.held.first ∙ ap first_root alone.1) ∙ is in cc

      whole : WithRow before fs (Some root) ((root, t) ∷ [])
      whole =
          subst (λ (x : ℕ). WithRow before fs (Some root) ((x, t) ∷ [])) same
          (subst (λ (row : Listing). WithRow before fs (Some root) row) alone.1
          (subst (λ (o : Option ℕ). WithRow before fs o b.row) is b.held))

      pub root_row : is_some (rows fs root) ≡ true
      root_row = ap is_some (known_row before fs (Some root) ((root, t) ∷ []) root refl whole.first whole.means.rows)

      pub built : (after : List Frame) → Means after (update eqb (reports fs) root (first_of (rows fs root))) (opened (update eqb (rows fs) root None) (rest_of (rows fs root))) → Built before after root t
      built after m = taken_out before fs after t root whole m
