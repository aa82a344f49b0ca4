-- The errors of a chain put one after another.
use Rattle.std.proofs.Common.{◌≡◌, ℕ, ◌+◌, ◌-◌, ◌<◌, ◌≤◌, true, false, cond, not, List, [], ◌∷◌, ◌++◌, map, length, get_or, take, eqb, sym, refl, ap, ◌∙◌, subst, arith}
use Rattle.std.proofs.lemmas.List.{append_assoc, append-nil, length-append, map-append, take_more, take_all}
use Rattle.std.proofs.lemmas.List.Elements.{filter-append}
use Rattle.std.proofs.lemmas.Bool.{cond-true, cond-false, ne_eqb}
use Rattle.vocabulary.specs.declared.frame_error.FrameError.{FrameError}
use Rattle.model.specs.Host.{Errors}
use Rattle.nodes.specs.declared.node.Node.{Node}
use Rattle.nodes.specs.Check.{blank}
use Rattle.readings.specs.Readings.{marker_in, unmarked}
use Rattle.print_forms.specs.Prints.{after_colon, caption, chain_lines, indent, numbered}
use Rattle.print_forms.specs.Shown.{error_text}
use Rattle.buffers.specs.Printed.{Printed}
use Rattle.buffers.proofs.Printed.{together}
use Rattle.prints.specs.ChainPrints.{between, errors_form, separator, shown_in}
use Rattle.prints.specs.declared.chain.Form.{Form}
use Rattle.prints.specs.declared.chain.Form.TheVariants.{Lines, Inline}

-- before an error that comes after others
separator_some : (f : Form) (n : ℕ) → (n ≡ 0 → ⊥) → separator f n ≡ between f n
separator_some f n some = cond-false (eqb n 0) _ _ (ne_eqb n 0 some)

pub line_separator : (n : ℕ) → (n ≡ 0 → ⊥) → cond (eqb n 1) caption [] ++ (indent ++ numbered (n - 1)) ≡ separator Lines n
line_separator n some = sym (separator_some Lines n some)

-- the line of an error
abbrev line : Errors → ℕ → FrameError → List ℕ
line h n e = indent ++ (numbered n ++ error_text h e)

-- a text behind others
behind_three : (a b c z : List ℕ) → (a ++ (b ++ c)) ++ z ≡ a ++ (b ++ (c ++ z))
behind_three a b c z = append_assoc a (b ++ c) z ∙ ap (λ (x : List ℕ). a ++ x) (append_assoc b c z)

behind : (a b c d z : List ℕ) → (a ++ (b ++ (c ++ d))) ++ z ≡ a ++ (b ++ (c ++ (d ++ z)))
behind a b c d z = append_assoc a (b ++ (c ++ d)) z ∙ ap (λ (x : List ℕ). a ++ x) (behind_three b c d z)

module _ (h : Errors) (e : FrameError) where
  one_line : (n : ℕ) → chain_lines h n (e ∷ []) ≡ line h n e
  one_line n = ap (λ (x : List ℕ). indent ++ (numbered n ++ x)) (append-nil (error_text h e))

  lines_more : (n : ℕ) (es : List FrameError) → chain_lines h n (es ++ (e ∷ [])) ≡ chain_lines h n es ++ line h (n + length es) e
  lines_more n [] = one_line n ∙ ap (λ (k : ℕ). line h k e) (omega arith)
  lines_more n (d ∷ es) =
      let same : (n + 1) + length es ≡ n + length (d ∷ es) = omega arith in
      ap (λ (x : List ℕ). indent ++ (numbered n ++ (error_text h d ++ x))) (lines_more (n + 1) es ∙ ap (λ (k : ℕ). chain_lines h (n + 1) es ++ line h k e) same)
      ∙ sym (behind indent (numbered n) (error_text h d) (chain_lines h (n + 1) es) (line h (n + length (d ∷ es)) e))

  colon_more : (es : List FrameError) → after_colon h (es ++ (e ∷ [])) ≡ after_colon h es ++ (between Inline 1 ++ error_text h e)
  colon_more [] = ap (λ (x : List ℕ). between Inline 1 ++ x) (append-nil (error_text h e))
  colon_more (d ∷ es) =
      ap (λ (x : List ℕ). between Inline 1 ++ (error_text h d ++ x)) (colon_more es) ∙ sym (behind_three (between Inline 1) (error_text h d) (after_colon h es) (between Inline 1 ++ error_text h e))

  line_after : (n m : ℕ) → n ≡ m + 1 → (m ≡ 0 → ⊥) → line h m e ≡ separator Lines n ++ error_text h e
  line_after n m is some =
      let less : n - 1 ≡ m = omega arith in
      sym
      (ap (λ (x : List ℕ). x ++ error_text h e)
      (separator_some Lines n (λ z. some (omega arith)) ∙ ap (λ (x : List ℕ). x ++ (indent ++ numbered (n - 1))) (cond-false (eqb n 1) caption [] (ne_eqb n 1 (λ z. some (omega arith)))) ∙ ap (λ (k : ℕ). indent ++ numbered k) less)
      ∙ append_assoc indent (numbered m) (error_text h e))

  -- one error more
  pub form_more : (f : Form) (es : List FrameError) → errors_form f h [] (es ++ (e ∷ [])) ≡ errors_form f h [] es ++ (separator f (length es) ++ error_text h e)
  form_more Lines [] = refl
  form_more Lines (a ∷ []) =
      ap (λ (x : List ℕ). error_text h a ++ x) (ap (λ (x : List ℕ). caption ++ x) (one_line 0) ∙ sym (behind_three caption indent (numbered 0) (error_text h e)))
  form_more Lines (a ∷ (b ∷ es)) =
      ap (λ (x : List ℕ). error_text h a ++ (caption ++ x)) (lines_more 0 (b ∷ es))
      ∙ sym (behind_three (error_text h a) caption (chain_lines h 0 (b ∷ es)) (line h (0 + length (b ∷ es)) e))
      ∙ ap (λ (x : List ℕ). (error_text h a ++ (caption ++ chain_lines h 0 (b ∷ es))) ++ x) (line_after (length (a ∷ (b ∷ es))) (0 + length (b ∷ es)) (omega arith) (λ z. omega arith))
  form_more Inline [] = append-nil (error_text h e)
  form_more Inline (a ∷ es) =
      ap (λ (x : List ℕ). error_text h a ++ x) (colon_more es)
      ∙ sym (append_assoc (error_text h a) (after_colon h es) (between Inline 1 ++ error_text h e))
      ∙ ap (λ (x : List ℕ). (error_text h a ++ after_colon h es) ++ (x ++ error_text h e)) (sym (separator_some Inline (length (a ∷ es)) (λ z. omega arith)))

-- where there are errors, the other text is not used
pub form_some : (f : Form) (h : Errors) (o : List ℕ) (es : List FrameError) → (length es ≡ 0 → ⊥) → errors_form f h [] es ≡ errors_form f h o es
form_some f h o [] some = absurd (some refl)
form_some Lines h o (a ∷ []) some = refl
form_some Lines h o (a ∷ (b ∷ es)) some = refl
form_some Inline h o (a ∷ es) some = refl

pub form_none : (f : Form) (h : Errors) (o : List ℕ) (es : List FrameError) → length es ≡ 0 → errors_form f h o es ≡ o
form_none Lines h o [] none = refl
form_none Inline h o [] none = refl
form_none f h o (a ∷ es) none = absurd (omega arith)

-- of the first `i` nodes the errors that are no markers are put, and there are so many
pub record Put (h : Errors) (form : Form) (nodes : List Node) (old new : List ℕ) (i at shown : ℕ) : Type 0 where
  pub count : shown ≡ length (shown_in h (take i nodes))
  pub few : shown ≤ i
  pub printed : Printed 0 at old new (errors_form form h [] (shown_in h (take i nodes)))

module _ (h : Errors) (f : Form) (nodes : List Node) (old now : List ℕ) (i at shown : ℕ) (p : Put h f nodes old now i at shown) where
  -- one node more
  module _ (lt : i < length nodes) where
    shown_more : shown_in h (take (i + 1) nodes) ≡ shown_in h (take i nodes) ++ unmarked h ((get_or nodes i blank).error ∷ [])
    shown_more = ap (shown_in h) (take_more nodes i blank lt)
        ∙ ap (unmarked h) (map-append (λ (x : Node). x.error) (take i nodes) (get_or nodes i blank ∷ []))
        ∙ filter-append (λ (e : FrameError). not (marker_in h e)) (map (λ (x : Node). x.error) (take i nodes)) ((get_or nodes i blank).error ∷ [])

    pub put_none : marker_in h (get_or nodes i blank).error ≡ true → Put h f nodes old now (i + 1) at shown
    put_none m =
        let e : shown_in h (take (i + 1) nodes) ≡ shown_in h (take i nodes) =
        shown_more ∙ ap (λ (es : List FrameError). shown_in h (take i nodes) ++ es) (cond-false (not (marker_in h (get_or nodes i blank).error)) _ _ (ap not m)) ∙ append-nil (shown_in h (take i nodes)) in
        let few = p.few in
        record {
          count = p.count ∙ ap (λ (es : List FrameError). length es) (sym e);
          few = omega arith;
          printed = subst (λ (es : List FrameError). Printed 0 at old now (errors_form f h [] es)) (sym e) p.printed;
        }

    pub put_some : (mid to : ℕ) (x new : List ℕ) → marker_in h (get_or nodes i blank).error ≡ false → Printed at mid now x (separator f shown) → Printed mid to x new (error_text h (get_or nodes i blank).error)
        → Put h f nodes old new (i + 1) to (shown + 1)
    put_some mid to x new m before here =
        let d = (get_or nodes i blank).error in
        let es = shown_in h (take i nodes) in
        let e : shown_in h (take (i + 1) nodes) ≡ es ++ (d ∷ []) = shown_more ∙ ap (λ (ds : List FrameError). es ++ ds) (cond-true (not (marker_in h d)) _ _ (ap not m)) in
        let n : length (shown_in h (take (i + 1) nodes)) ≡ length (es ++ (d ∷ [])) = ap (λ (ds : List FrameError). length ds) e in
        let long = length-append es (d ∷ []) in
        let few = p.few in
        let count = p.count in
        record {
          count = omega arith;
          few = omega arith;
          printed = subst (Printed 0 to old new) (ap (λ (k : ℕ). errors_form f h [] es ++ (separator f k ++ error_text h d)) count ∙ sym (form_more h d f es) ∙ ap (errors_form f h []) (sym e))
              (together _ _ _ _ _ _ _ _ p.printed (together _ _ _ _ _ _ _ _ before here));
        }

  -- after the last
  module _ (end : length nodes ≤ i) (o : List ℕ) where
    all : take i nodes ≡ nodes
    all = take_all i nodes end

    pub put_all : (shown ≡ 0 → ⊥) → Printed 0 at old now (errors_form f h o (shown_in h nodes))
    put_all some =
        let n : shown ≡ length (shown_in h nodes) = p.count ∙ ap (λ (xs : List Node). length (shown_in h xs)) all in
        subst (Printed 0 at old now) (ap (λ (xs : List Node). errors_form f h [] (shown_in h xs)) all ∙ form_some f h o (shown_in h nodes) (λ z. some (omega arith))) p.printed

    pub put_other : shown ≡ 0 → (to : ℕ) (new : List ℕ) → Printed at to now new o → Printed 0 to old new (errors_form f h o (shown_in h nodes))
    put_other none to new q =
        let n : shown ≡ length (shown_in h nodes) = p.count ∙ ap (λ (xs : List Node). length (shown_in h xs)) all in
        let zero : length (shown_in h nodes) ≡ 0 = omega arith in
        subst (Printed 0 to old new)
        (ap (λ (x : List ℕ). x ++ o) (ap (λ (xs : List Node). errors_form f h [] (shown_in h xs)) all ∙ form_none f h [] (shown_in h nodes) zero) ∙ sym (form_none f h o (shown_in h nodes) zero))
        (together _ _ _ _ _ _ _ _ p.printed q)
