-- A call from C: how it comes about, what it returns, and that two which keep one promise leave the same.
-- Assumes nothing.
use Rattle.std.proofs.Common.{ℕ, arith, ◌≡◌, refl, ap, sym, ◌∙◌, inl, inr, List, ◌∷◌, length}
use Rattle.std.proofs.lemmas.Bool.{cases_eq}
use Rattle.terms.specs.declared.ListFault.TheVariants.{BufferLength}
use Rattle.terms.specs.declared.Refusal.TheVariants.{OfList}
use Rattle.terms.specs.Verdict.{Verdict, number_in, place_in}
use Rattle.terms.specs.Refusal.{number_of}
use Rattle.terms.proofs.Refusing.{zero_is_fine}
use Rattle.oblachura.specs.Call.{Told, Call}
use Rattle.oblachura.specs.CallPromises.{One, Returns}

module _ {X A : Type 0} {n : ℕ} {number : A → ℕ} {numbers : A → List ℕ} {Leaves : X → A → Type 0} {before : X}
    {list : List ℕ} where
  pub call_told : {after : X} {stored : List ℕ} {r : ℕ} → length list ≡ n → (a : A) → Leaves after a
      → (r ≡ number a) × (stored ≡ numbers a) → Call n number numbers Leaves before list after stored r
  call_told long a done told =
      record {
        told = λ e. record { answer = a; done = done; returns = told.0; stores = told.1 };
        wrong_list = λ other. absurd (other long);
      }

  -- nothing is written where the list has another length
  pub call_wrong_list : {r : ℕ} → ¬ (length list ≡ n) → r ≡ number_of (OfList BufferLength)
      → Call n number numbers Leaves before list before list r
  call_wrong_list other returns =
      record {
        told = λ long. absurd (other long);
        wrong_list = λ o. record { returns = returns; stores = refl; kept = refl };
      }

  -- where the operation leaves nothing open, neither does the call
  pub call_one : ((after after' : X) (a a' : A) → Leaves after a → Leaves after' a' → (a ≡ a') × (after ≡ after'))
      → One (Call n number numbers Leaves before list)
  call_one one after after' stored stored' r r' g h = elim (cases_eq (length list) n) [
    | inl long ↦
        let t : Told number numbers (Leaves after) stored r = g.told long in
        let u : Told number numbers (Leaves after') stored' r' = h.told long in
        let same = one after after' t.answer u.answer t.done u.done in (
          same.1,
          t.stores ∙ ap numbers same.0 ∙ sym u.stores,
          t.returns ∙ ap number same.0 ∙ sym u.returns,
        )
    | inr other ↦
        let t = g.wrong_list other in
        let u = h.wrong_list other in
        (t.kept ∙ sym u.kept, t.stores ∙ sym u.stores, t.returns ∙ sym u.returns)
  ]

  -- where the answer carries the number and the place of the checks, the call returns and stores them
  pub call_returns : {after : X} {stored : List ℕ} {r : ℕ} (checks : Verdict) (brought : List ℕ)
      → ((a : A) → Leaves after a
      → (number a ≡ number_in checks) × (numbers a ≡ number_in checks ∷ place_in checks ∷ brought))
      → Call n number numbers Leaves before list after stored r
      → Returns n list checks brought stored r
  call_returns {r = r} checks brought carries h =
      let listed : length list ≡ n → r ≡ number_in checks =
      λ long. (h.told long).returns ∙ (carries (h.told long).answer (h.told long).done).0 in
      record {
        listed = listed;
        stores = λ long. (h.told long).stores ∙ (carries (h.told long).answer (h.told long).done).1;
        wrong_list = λ other. ((h.wrong_list other).returns, (h.wrong_list other).stores);
        zero = λ e. elim (cases_eq (length list) n) [
          | inl long ↦ (long, zero_is_fine checks (sym (listed long) ∙ e))
          | inr other ↦ let ten = (h.wrong_list other).returns in absurd (omega (arith, e, ten))
        ];
      }
