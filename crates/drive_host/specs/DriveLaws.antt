-- The drive host keeps the rules of a host.
use Rattle.std.specs.Prelude.{◌≡◌, ℕ, ◌+◌, ◌-◌, ◌/◌, ◌%◌, ◌<◌, ◌≤◌, true, false, ltb, List, [], ◌∷◌, ◌++◌, length, is_some, Some, None, Option, nat_lt, refl}
use Rattle.std.proofs.Common.{ap, subst, arith, length-append, lt-ltb, ltb-true, ltb-false}
use Rattle.std.proofs.lemmas.Bool.{cond-true, cond_both}
use Rattle.std.proofs.lemmas.Option.{slice_get-get_or}
use Rattle.std.specs.Option.{option_map}
use Rattle.classes.specs.Ascii.{ascii}
use Rattle.vocabulary.specs.IoKind.{io_kinds, io_kind_at}
use Rattle.vocabulary.specs.Kind.{sourceless}
use Rattle.vocabulary.specs.declared.io_kind.IoKind.{IoKind}
use Rattle.vocabulary.specs.declared.io_kind.IoKind.TheVariants.{Other}
use Rattle.vocabulary.specs.declared.kind.Kind.TheVariants.{Plain}
use Rattle.model.specs.Host.{Error, Lawful, Live}
use Rattle.drive_host.specs.Drive.{decimal, gauge_error, gauge, plain, gate, drive, drive_errors}

abbrev Below : ℕ → Option ℕ → Type 0
Below e None = Unit {0}
Below e (Some d) = (d < e) × (d < 48)

record Good (e : ℕ) (m : Error) : Type 0 where
  within : e < 48
  short : length m.text ≤ 255
  open_kind : sourceless m.kind ≡ false
  below : Below e m.source

decimal_short : (k : ℕ) → length (decimal k) ≤ 2
decimal_short k = cond_both (nat_lt k 10) ((48 + k) ∷ []) ((48 + k / 10) ∷ (48 + k % 10) ∷ []) (λ (ds : List ℕ). length ds ≤ 2) (λ _. omega arith) (λ _. omega arith)

label_short : (word : List ℕ) (k : ℕ) → length word ≤ 6 → length (word ++ decimal k) ≤ 255
label_short word k h = let d = decimal_short k in simp length-append (omega arith)

gauge-good : (e : ℕ) (m : Error) → e < 16 → gauge e ≡ Some m → Good e m
gauge-good e m h = go (io_kind_at e)
  where
    go : (o : Option IoKind) → option_map (gauge_error e) o ≡ Some m → Good e m
    go None q = absurd cc
    go (Some i) q =
        let n : gauge_error e i ≡ m = cc in
        subst (Good e) n (record { within = omega arith; short = label_short (ascii "gauge ") e (omega arith); open_kind = refl; below = tt })

plain-good : (e d : ℕ) (word : List ℕ) (k : ℕ) (m : Error) → e < 48 → d < e → length word ≤ 6 → plain d (word ++ decimal k) ≡ Some m → Good e m
plain-good e d word k m h f w q =
    let n : record { kind = Plain; text = word ++ decimal k; source = Some d } ≡ m = cc in
    subst (Good e) n (record { within = h; short = label_short word k w; open_kind = refl; below = (f, omega arith) })

good : (e : ℕ) (m : Error) → drive_errors e ≡ Some m → Good e m
good e m =
    cond_both (nat_lt e 16) (gauge e) (drive e) Then (λ t. gauge-good e m (ltb-true e 16 t)) (λ f. let below = ltb-false e 16 f in
    cond_both (nat_lt e 32) _ (gate e) Then (λ t. let above = ltb-true e 32 t in plain-good e (e - 16) (ascii "drive ") (e - 16) m (omega arith) (omega arith) (omega arith)) (λ f. let below = ltb-false e 32 f in
    cond_both (nat_lt e 48) _ None Then (λ t. plain-good e (e - 16) (ascii "gate ") (e - 32) m (ltb-true e 48 t) (omega arith) (omega arith)) (λ f q. absurd cc)))
  where
    Then : Option Error → Type 0
    Then o = o ≡ Some m → Good e m

drive-live : (e : ℕ) → e < 48 → Live drive_errors e
drive-live e h = cond_both (nat_lt e 16) (gauge e) (drive e) Told gauged (λ _. cond_both (nat_lt e 32) _ (gate e) Told (λ _. refl) (λ _. ap is_some (cond-true (nat_lt e 48) _ _ (lt-ltb e 48 h))))
  where
    Told : Option Error → Type 0
    Told o = is_some o ≡ true

    gauged : ltb e 16 ≡ true → is_some (gauge e) ≡ true
    gauged t = ap (λ (o : Option IoKind). is_some (option_map (gauge_error e) o)) (slice_get-get_or io_kinds e Other (ltb-true e 16 t))

source-good : (e d : ℕ) (m : Error) → drive_errors e ≡ Some m → m.source ≡ Some d → (d < e) × (d < 48)
source-good e d m q s = subst (Below e) s (good e m q).below

pub drive_lawful : Lawful drive_errors 48
drive_lawful =
    record {
      small = omega arith;
      within = λ e m q. (good e m q).within;
      short = λ e m q. (good e m q).short;
      bare = λ e m q b. let f = (good e m q).open_kind in absurd cc;
      falls = λ e d m q s. (source-good e d m q s).0;
      lives = λ e d m q s. drive-live d (source-good e d m q s).1;
    }
