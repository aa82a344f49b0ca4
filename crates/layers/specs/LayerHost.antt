-- A layer over a host keeps the rules of a host.
use Rattle.std.specs.Prelude.{◌≡◌, ℕ, ◌+◌, ◌-◌, ◌<◌, ◌≤◌, [], Some}
use Rattle.std.proofs.Common.{arith}
use Rattle.std.proofs.Math.Nat.{min-le_right}
use Rattle.std.proofs.lemmas.Bool.Decides.{nat_tests}
use Rattle.std.proofs.lemmas.Option.{slice_get_past, slice_get-get_or}
use Rattle.model.specs.Host.{Error, Errors, Lawful, Live}
use Rattle.layers.specs.Entries.{IsTable, foot_of, layered, layered_span, next_number, unmade}
use Rattle.layers.specs.declared.entries.Entries.{Entries}

module _ (lower : Errors) (span : ℕ) (l : Lawful lower span) (t : Entries) where
  -- a layer without entries is the host below
  pub empty_layer : span ≤ t.below → t.items.items ≡ [] → (e : ℕ) → layered lower t e ≡ lower e
  empty_layer b i e = grind (arith, nat_tests, l.within e, slice_get_past t.items.items (e - t.below))

  module _ (k : IsTable t) where
    -- an error of the layer is live where what it rests on is
    entry_live : (d : ℕ) (b : Error) → d < next_number t → lower (foot_of t d).base ≡ Some b → Live (layered lower t) d
    entry_live d b h q = grind (arith, nat_tests, slice_get-get_or t.items.items (d - t.below) unmade)

    pub layer_lawful : Lawful (layered lower t) (layered_span t)
    layer_lawful =
        record {
          small = min-le_right (t.below + 64) 65536;
          within = λ e m q. grind (arith, nat_tests, k.room, k.numbered, slice_get_past t.items.items (e - t.below));
          short = λ e m q. grind (arith, nat_tests, l.short);
          bare = λ e m q b. grind (arith, nat_tests, k.sourced (e - t.below), l.bare e m);
          falls = λ e d m q s. grind (arith, nat_tests, k.falling (e - t.below), l.falls e d m);
          lives = λ e d m q s. grind (arith, nat_tests, k.falling (e - t.below), k.ending (e - t.below), slice_get_past t.items.items (e - t.below), entry_live d, l.falls e d m, l.lives e d m);
        }
