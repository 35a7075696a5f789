-- What is seen at each front, where the map is written at one.
use Rattle.std.proofs.Common.{◌≡◌, ◌≢◌, ℕ, Bool, true, false, List, Some, sym, ◌∙◌, subst}
use Rattle.std.proofs.lemmas.Bool.{false_from_ne_true}
use Rattle.std.specs.Prelude.{Vec}
use Rattle.std.specs.Bool.{nat_eq}
use Rattle.std.specs.Cmp.Lexicographic.{pointwise, bytes_decides, nat_list_eq_equiv}
use Rattle.std.specs.HashMap.{UpdatesBy}
use Rattle.std.specs.Map.{IsKeyTest, AreApart, KeepsOthers, lookup}
use Rattle.std.specs.declared.alloc.Global.{Global}
use Rattle.lq_log.specs.declared.forks.Seen.{Seen}
use Rattle.lq_log.specs.Seen.{Forks, seen_at}

abbrev pub same_keys : Vec ℕ Global → Vec ℕ Global → Bool
same_keys x y = pointwise nat_eq x.items y.items

others_kept : (test : Vec ℕ Global → Bool) (old new : List (Vec ℕ Global × Seen)) → KeepsOthers same_keys test old new → (other : Vec ℕ Global → Bool) → IsKeyTest same_keys other → AreApart test other → lookup other new ≡ lookup other old
unfolding KeepsOthers
others_kept test old new h = h

apart : (front other items : List ℕ) → front ≢ other → pointwise nat_eq front items ≡ true → pointwise nat_eq other items ≡ false
apart front other items differ same = false_from_ne_true (pointwise nat_eq other items) (λ e. differ ((bytes_decides front items).0 same ∙ sym ((bytes_decides other items).0 e)))

pub seen_updated : (old new : Forks) (key : Vec ℕ Global) (front : List ℕ) (seen : Seen) → key.items ≡ front → UpdatesBy same_keys (λ k. pointwise nat_eq key.items k.items) old new (Some seen) → (seen_at new front ≡ Some seen) × ((other : List ℕ) → front ≢ other → seen_at new other ≡ seen_at old other)
seen_updated old new key front seen is updates = (
  subst (λ f. seen_at new f ≡ Some seen) is updates.1,
  λ other differ. others_kept (λ k. pointwise nat_eq key.items k.items) old.entries new.entries updates.3 (λ k. pointwise nat_eq other k.items)
      (λ x y. nat_list_eq_equiv.congr other x.items y.items)
      (λ k. apart key.items other k.items (λ e. differ (sym is ∙ e))),
)
