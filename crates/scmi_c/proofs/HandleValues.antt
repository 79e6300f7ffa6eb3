-- The machine value of a handle.
use Rattle.std.proofs.Common.{◌≡◌, ℕ, List, [], ◌∷◌, ◌++◌, refl, subst}
use lib.Dec.{T}
use seplogic.Ra.Ura.{Ura}
use mir.Syntax.{Ty}
use mir.Val.{Val, vstruct, vcons, vnil, of_list, has_ty, WT}
use mir.Raw.{raw as bare}
use base.Fml.{Fml}
use base.Fraction.{full_share}
use base.Logic.{never, ent, guard, guard_i, via, fst∗, snd∗}
use contract.Monad.{fact_use}
use types.Logic.{Logic, sem}
use types.Kit.{Item, Goal, Seq, Step, step, ‵, given, learn, use1, ◌$◌, drop, fsplit, fjoin, fpick, fpack, feq_i, feq_l}
use denote.RattleType.{RattleType, Valss}
use denote.Memory.{lone}
use denote.RawPtr.{Ptr, RawPtr, ptr_val, block_ptr, null_ptr, lies_at, in_a_block, Testable}
use denote.Steps.{nothing}
use denote.Struct.Struct.{within}
use denote.Struct.Owning.{shape}
use Rattle.std.specs.Prelude.{Option, Some, None}
use Rattle.std.specs.declared.alloc.Global.{Global}
use Rattle.std.proofs.GlobalToken.{dealloc_token-Testable}
use Rattle.std_alloc.specs.Box.Ownership.{box_owns}
use Rattle.std.specs.contracts.impls.GlobalAllocator.TheImpl.{ghosts}
use Rattle.std.proofs.Handle.{handle as heap}
use Rattle.scmi_c.specs.Handle.{holds_value}
use Rattle.scmi_c.specs.contracts.desk.Desk as platform
use Rattle.scmi_c.specs.contracts.handle.Handle as handle

-- the right to free a block of the heap
abbrev pub chunk : Ty → Ptr → Fml
chunk = ghosts.dealloc_token heap

abbrev pub word : Ptr → Val
word p = vstruct (vcons (ptr_val p) vnil)

abbrev pub Good : Ty → Val → Type 0
Good τ v = T (has_ty τ v) × WT v

-- who owns the box may compare its pointer with null
tested : {M : Type 1} {𝓤 : Ura M} (𝓛 : Logic 𝓤) (a : Global) (p : Ptr)
    (x : (platform.the_row).Denot)
    → ent 𝓤 (sem 𝓛 (box_owns chunk platform.the_row p x))
    (guard 𝓤 (Testable p) (sem 𝓛 (box_owns chunk platform.the_row p x)))
tested {𝓤 = 𝓤} 𝓛 a p x =
    let R : RattleType = platform.the_row in
    fact_use 𝓤 (Testable p)
    (via 𝓤 _ (snd∗ 𝓤 (sem 𝓛 (lies_at R full_share p x)) (sem 𝓛 (chunk (bare (lone R.mir)) p)))
    (dealloc_token-Testable 𝓛 a (bare (lone R.mir)) p))
    (guard_i 𝓤 (Testable p) (sem 𝓛 (box_owns chunk R p x)))

module _ {M : Type 1} {𝓤 : Ura M} {𝓛 : Logic 𝓤} {K : Type 0} {Γ : List (Item 𝓤)}
    {G : Goal 𝓤 𝓛.H} where
  pub handle_in : K → (p : Ptr) (x : Option (platform.the_row).Denot)
      → Step K 𝓛 (‵ ((handle.the_row).own_val (record { at = p; value = x }) (word p ∷ [])) ∷ Γ) G
      (‵ (holds_value ghosts.dealloc_token platform.the_row p x) ∷ Γ) G
  handle_in t p x = step (λ s.
      nothing t $ feq_i t (List Val) (ptr_val p ∷ []) (ptr_val p ∷ []) refl $ fjoin t $ feq_i t
      (List Val) (word p ∷ []) (word p ∷ []) refl $ fjoin t $
      fpack t (Valss (RawPtr ∷ [])) (within (shape handle.the_type) (p, tt) (word p ∷ []))
      (ptr_val p ∷ [], tt) $ fjoin t $ s)

  pub handle_in_some : K → (a : Global) (p : Ptr) (x : (platform.the_row).Denot)
      → Step K 𝓛 (‵ ((handle.the_row).own_val (record { at = p; value = Some x }) (word p ∷ []))
      ∷ Γ) G (‵ (box_owns (ghosts.dealloc_token a) platform.the_row p x) ∷ Γ) G
  handle_in_some t a p x = step (λ s. fpack t Global (λ heap. box_owns
      (ghosts.dealloc_token heap) platform.the_row p x) a $ handle_in t p (Some x) $ s)

  pub handle_open : K → (a : Global) (p : Ptr) (m : Option (platform.the_row).Denot) (vs : List Val)
      → (m ≡ None → vs ≡ word null_ptr ∷ [] → Seq K 𝓛 Γ G)
      → ((b o : ℕ) (x : (platform.the_row).Denot)
      → m ≡ Some x → vs ≡ word (block_ptr b o) ∷ [] → Testable (block_ptr b o)
      → Seq K 𝓛 (‵ (box_owns chunk platform.the_row (block_ptr b o) x) ∷ Γ) G)
      → Seq K 𝓛 (‵ ((handle.the_row).own_val (record { at = p; value = m }) vs) ∷ Γ) G
  handle_open t a p None vs none one =
      fsplit t $ fpick t (λ vss. fsplit t $ feq_l t
      (λ ev. fsplit t $ feq_l t (λ ep. drop t $ fpick t (λ e. drop t $ none refl
      (subst (λ (p' : Ptr). vs ≡ word p' ∷ []) e
      (subst (λ (ps : List Val). vs ≡ vstruct (of_list (ps ++ [])) ∷ []) ep ev))))))
  handle_open t a p (Some x) vs none one =
      fsplit t $ fpick t (λ vss. fsplit t $ feq_l t (λ ev. fsplit t $ feq_l t (λ ep. drop t $
      fpick t (λ _. in_a_block t p (λ p'. box_owns chunk platform.the_row p' x)
      (fst∗ 𝓤 (never 𝓤) (sem 𝓛 (chunk (bare (lone (platform.the_row).mir)) null_ptr))) (λ b o e.
      use1 𝓛
      (given (Testable (block_ptr b o)) (‵ (box_owns chunk platform.the_row (block_ptr b o) x)))
      (tested 𝓛 a (block_ptr b o) x) $ learn t (λ is. one b o x refl
      (subst (λ (p' : Ptr). vs ≡ word p' ∷ []) e
      (subst (λ (ps : List Val). vs ≡ vstruct (of_list (ps ++ [])) ∷ []) ep ev)) is))))))
