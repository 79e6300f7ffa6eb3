-- An identity tells which rings it names, and an end keeps the identity of its rings.
use Rattle.std.proofs.Common.{◌≡◌, ℕ, List, [], ◌++◌, refl, ap, sym, ◌∙◌, append_assoc, subst}
use Rattle.std.proofs.Math.Logic.{∥∥₁_map, ∥∥₁_elim}
use denote.Struct.Props.{props}
use Rattle.rtrb.specs.Ends.{SameRing}
use Rattle.rtrb.specs.Ring.{IsPair, SameProducer}
use Rattle.rtrb.specs.declared.producer.Producer.{Producer}
use Rattle.rtrb.specs.declared.consumer.Consumer.{Consumer}
use Rattle.rtrb.specs.declared.end.End.{End}
use base.Stored.{Gv, gnil, gnum, gcons}
use Rattle.scmi_link.specs.declared.caller_rings.CallerRings.{CallerRings}
use Rattle.scmi_link.specs.declared.callee_rings.CalleeRings.{CalleeRings}
use Rattle.scmi_link.specs.CallerRings.{IsCallerOf, SameCallerRings}
use Rattle.scmi_link.specs.CalleeRings.{IsCalleeOf, SameCalleeRings}
use Rattle.scmi_link.specs.Rings.{numbers_of, rings_identity}
use Rattle.scmi_link.specs.declared.rings.Rings.{Rings}
use Rattle.scmi_link.specs.contracts.rings.Rings.{the_row}

-- the same tree, with the same numbers after it
record SameTree (a b : Gv) (xs ys : List ℕ) : Type 0 where
  tree : a ≡ b
  rest : xs ≡ ys

-- a tree can be told from its numbers, whatever comes after them
numbers_tell : (a b : Gv) (xs ys : List ℕ) → numbers_of a ++ xs ≡ numbers_of b ++ ys
    → SameTree a b xs ys
unfolding numbers_of
numbers_tell gnil gnil xs ys e = record { tree = refl; rest = cc }
numbers_tell gnil (gnum n) xs ys e = cc
numbers_tell gnil (gcons c d) xs ys e = cc
numbers_tell (gnum m) gnil xs ys e = cc
numbers_tell (gnum m) (gnum n) xs ys e = record { tree = cc; rest = cc }
numbers_tell (gnum m) (gcons c d) xs ys e = cc
numbers_tell (gcons a b) gnil xs ys e = cc
numbers_tell (gcons a b) (gnum n) xs ys e = cc
numbers_tell (gcons a b) (gcons c d) xs ys e =
    let tails : (numbers_of a ++ numbers_of b) ++ xs ≡ (numbers_of c ++ numbers_of d) ++ ys = cc in
    let parts : numbers_of a ++ (numbers_of b ++ xs) ≡ numbers_of c ++ (numbers_of d ++ ys) =
    simp append_assoc at tails in
    let first = numbers_tell a c (numbers_of b ++ xs) (numbers_of d ++ ys) parts in
    let second = numbers_tell b d xs ys first.rest in
    record { tree = λ i. gcons (first.tree i) (second.tree i); rest = second.rest }

-- rings of one identity are the same
pub same_rings : (a b : Rings) → rings_identity a ≡ rings_identity b → a ≡ b
unfolding rings_identity
same_rings a b e = the_row.coded.inj a b
    (numbers_tell (the_row.coded.code a) (the_row.coded.code b) [] [] (ap (λ ns. ns ++ []) e)).tree

module _ {T A P : Type 0} (a b c : End T A P) where
  -- an end after a call that keeps its ring
  stays : SameRing a b → SameRing b c → SameRing a c
  stays p q = (q.0 ∙ p.0, q.1 ∙ p.1, q.2 ∙ p.2, q.3 ∙ p.3)

  -- two ends of the ring of a third
  pub beside : SameRing a b → SameRing a c → SameRing b c
  beside p q = (q.0 ∙ sym p.0, q.1 ∙ sym p.1, q.2 ∙ sym p.2, q.3 ∙ sym p.3)

pub caller_stays : (identity : List ℕ) (c d : CallerRings) → ∥ IsCallerOf identity c ∥₁
    → SameCallerRings c d → ∥ IsCallerOf identity d ∥₁
caller_stays identity c d identified same = ∥∥₁_map identified (λ n. record {
  rings = n.rings;
  identity_is = n.identity_is;
  posts_into = (
    stays n.rings.frames.value.end c.frames.end d.frames.end n.posts_into.0 same.0.0,
    same.0.1 ∙ n.posts_into.1,
  );
  reads_from = stays n.rings.answers.value.end c.answers.end d.answers.end n.reads_from same.1.0;
})

pub callee_stays : (identity : List ℕ) (c d : CalleeRings) → ∥ IsCalleeOf identity c ∥₁
    → SameCalleeRings c d → ∥ IsCalleeOf identity d ∥₁
callee_stays identity c d identified same = ∥∥₁_map identified (λ n. record {
  rings = n.rings;
  identity_is = n.identity_is;
  takes_from = stays n.rings.frames.value.end c.frames.end d.frames.end n.takes_from same.0.0;
  answers_into = (
    stays n.rings.answers.value.end c.answers.end d.answers.end n.answers_into.0
        same.1.0,
    same.1.1 ∙ n.answers_into.1,
  );
})

-- the ends of one identity are ends of the same two rings
pub record AreBeside (c : CallerRings) (d : CalleeRings) : Type 0 where
  pub frames : IsPair c.frames d.frames
  pub answers : IsPair d.answers c.answers

both_beside : (c : CallerRings) (d : CalleeRings) (identity : List ℕ) → IsCallerOf identity c
    → IsCalleeOf identity d → AreBeside c d
both_beside c d identity n m =
    let one = same_rings n.rings m.rings (n.identity_is ∙ sym m.identity_is) in
    record {
      frames = beside m.rings.frames.value.end c.frames.end d.frames.end (subst (λ (r : Rings).
          SameRing r.frames.value.end c.frames.end) one n.posts_into.0) m.takes_from;
      answers = beside m.rings.answers.value.end d.answers.end c.answers.end m.answers_into.0
          (subst (λ (r : Rings). SameRing r.answers.value.end c.answers.end) one n.reads_from);
    }

pub are_beside : (c : CallerRings) (d : CalleeRings) (x y : List ℕ) → ∥ IsCallerOf x c ∥₁
    → ∥ IsCalleeOf y d ∥₁ → x ≡ y → AreBeside c d
are_beside c d x y n m e =
    let n' : ∥ IsCallerOf y c ∥₁ = subst (λ (z : List ℕ). ∥ IsCallerOf z c ∥₁) e n in
    ∥∥₁_elim n' (hlevel props) (λ a. ∥∥₁_elim m (hlevel props) (λ b. both_beside c d y a b))

module _ {T A P : Type 0} (p q : Producer T A P) (e : p ≡ q) where
  pub same_producer : SameProducer p q
  same_producer =
      subst (λ (x : Producer T A P). SameProducer p x) e ((refl, refl, refl, refl), refl)

  pub same_pair : (c : Consumer T A P) → IsPair q c → IsPair p c
  same_pair c = subst (λ (x : Producer T A P). IsPair x c) (sym e)
