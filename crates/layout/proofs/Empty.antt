-- Frames that are all free.
use Rattle.std.proofs.Common.{◌≡◌, ℕ, zero, suc, ◌+◌, ◌-◌, ◌<◌, ◌≤◌, List, [], length, get_or, Some, None, Option, refl, ap, ◌∙◌, ⊎_elim, add-one, arith}
use Rattle.std.proofs.lemmas.Bool.{cases_eq}
use Rattle.std.specs.Option.{SomeIff}
use Rattle.vocabulary.specs.declared.frame_error.FrameError.TheVariants.{Host}
use Rattle.trees.specs.Numbered.{size, tally, head_of}
use Rattle.trees.proofs.Numbered.{one_same, one_other}
use Rattle.layout.specs.declared.frame.Role.TheVariants.{Linked}
use Rattle.layout.specs.declared.frame.Frame.{Frame}
use Rattle.layout.specs.Layout.{blank, Held, Laid, Sound, down}
use Rattle.layout.specs.Reports.{Means}
use Rattle.layout.proofs.Told.{told}

down-size : (i : ℕ) → size (down i) ≡ i
unfolding down
down-size zero = refl
down-size (suc i) = let h = down-size i in omega arith

down_past : (i n : ℕ) → i ≤ n → tally n (down i) ≡ 0
unfolding down
down_past zero n h = refl
down_past (suc i) n h = let a = down_past i n (omega arith) in let b = one_other n i (λ q. omega arith) in omega arith

down_once : (i n : ℕ) → n < i → tally n (down i) ≡ 1
unfolding down
down_once zero n h = absurd (omega arith)
down_once (suc i) n h =
    ⊎_elim
    (λ q. let a = one_same n i q in let b = down_past i n (omega arith) in omega arith)
    (λ q. let a = one_other n i q in let b = down_once i n (omega arith) in omega arith)
    (cases_eq n i)

abbrev pub free_frame : Option ℕ → Frame
free_frame next = record { error = Host 0; place = 0; first = None; last = None; next = next; size = 1; role = Linked }

-- each frame is free and links to the one before it
abbrev pub EachFree : List Frame → Type 0
EachFree fs = (i : ℕ) → i < 1024 → (o : Option ℕ) × SomeIff o (1 ≤ i) (i - 1) × (get_or fs i blank ≡ free_frame o)

before_is : (i : ℕ) (o : Option ℕ) → SomeIff o (1 ≤ i) (i - 1) → o ≡ head_of (down i)
unfolding down
before_is zero None s = refl
before_is zero (Some x) s = absurd (let a = s.0 in omega arith)
before_is (suc i) None s = absurd (s (omega arith))
before_is (suc i) (Some x) s = ap Some (let a = s.1 in omega arith)

head_down : (n : ℕ) → Some n ≡ head_of (down (n + 1))
unfolding down
head_down n = rw add-one refl

module _ (fs : List Frame) (long : length fs ≡ 1024) (each : EachFree fs) where
  held_down : (i : ℕ) → i ≤ 1024 → Held fs Linked (down i)
  unfolding down
  held_down zero le = tt
  held_down (suc i) le =
      let f = each i (omega arith) in
      ((omega arith), f.2 ∙ ap free_frame (before_is i f.0 f.1), tt, held_down i (omega arith))

  all_free : (n : ℕ) → n + 1 ≡ 1024 → Laid fs (Some n) 1024 [] (down (n + 1))
  all_free n e = record {
    stand = tt;
    spare = held_down (n + 1) (omega arith);
    begins = head_down n;
    once = λ m lt. let q = down_once (n + 1) m (omega arith) in omega arith;
    left = let q = down-size (n + 1) in omega arith;
    all = let q = down-size (n + 1) in omega arith;
    long = long;
  }

  pub empty_sound : Sound fs (Some 1023) 1024
  empty_sound = ∣ record { live = []; free = _; laid = all_free 1023 refl } ∣₁

  pub empty_means : Means fs (λ j. None) (λ j. None)
  empty_means = let t = told (all_free 1023 refl) in record { reports = λ j. (t j).0; rows = λ j. (t j).1 }
