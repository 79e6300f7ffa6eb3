-- `put_loose` writes the pointer into a handle of nothing.
use Rattle.std.proofs.Common.{◌≡◌, List, [], ◌∷◌, ◌++◌, refl, sym, subst}
use mir.Val.{Val, vptr, vunit}
use base.Fml.{ftrue, flft}
use base.Fraction.{full_share}
use base.Logic.{SProp, ent, emp, id⊢}
use prog.Wp.{WpFn}
use contract.Monad.{fact, fact_i}
use contract.Running.{tables}
use types.Kit.{‵, raw, ◌⊛◌, ◌$◌, ◌∵◌, !, qed, by, move, keep, use0, split, join, rewrite, fsplit, fsplit3, fjoin, fjoin3, feq_i, feq_l, suffices}
use types.Part.{sub, whole, store_in}
use types.Run.{stop, fld, of_opd, unit_lit, assigns, returns, enter}
use types.ByLocal.{alloc_all, pass_all, free_all, look_at, get, get_in, through, sets}
use denote.Memory.{cell_at}
use denote.RattleType.{RattleType, owns}
use denote.RawPtr.{block_ptr}
use denote.Signature.{types_at, plain}
use denote.Steps.{nothing, heard, opens, closes}
use denote.Triple.Walked.{Stays, stay_dropped, stay_ref, walk_of, Goes-ref}
use Rattle.core.proofs.alloc.Calls.{Goes-blank}
use Rattle.std.specs.Prelude.{Some, None}
use Rattle.std.specs.contracts.alloc.Global as heap
use Rattle.std.proofs.alloc.Global.TheLaws as heap_laws
use Rattle.std.specs.contracts.impls.GlobalAllocator.TheImpl.{ghosts}
use Rattle.std.proofs.raw_atomic.Walks.{proved_at, leaves}
use Rattle.scmi_c.proofs.LooseValues.{both, Loose, loose_good, loose_out}
use Rattle.scmi_c.proofs.HandleValues.{word, handle_in_some, handle_open}
use Rattle.scmi_c.specs.contracts.desk.Desk as platform
use Rattle.scmi_c.specs.contracts.handle.Handle as handle
use Rattle.scmi_c.specs.contracts.handle.Handle.put_loose.{ended, clauses}
use Rattle.scmi_c.specs.contracts.handle.Handle.put_loose.Key.{name as #self}
use Rattle.scmi_c.proofs.handle.Handle.put_loose.Statement.{statement}
use Rattle.scmi_c.proofs.handle.Handle.put_loose.Code as code

pub put_loose_spec : {M : Type 1} → statement M
put_loose_spec 𝓤 𝓛 𝓜 𝓡 wired =
    let H = 𝓛.H in
    let 𝓣 = tables 𝓤 H 𝓜 𝓡 𝓡.env in
    let En = ended in
    let c = clauses 𝓛 𝓜.mem 𝓡.returns in
    let fn = code.function in
    let R : RattleType = platform.the_row in
    let Hd : RattleType = handle.the_row in
    let Z : RattleType = heap.the_row in
    let LZ = heap_laws.the_row_laws in
    let hs : Stays En.signature.params En.kept = (
      stay_ref (0 ∷ []) tt (plain (λ _. Hd)),
      (stay_dropped (plain (λ _. Loose R Z LZ ghosts)) En.kept.1.0, tt),
    ) in
    proved_at 𝓛 En hs c 𝓜 𝓡 (
      Goes-ref 𝓛 1 0 tt (plain (λ _. Hd)),
      (Goes-blank 𝓛 1 (plain (λ _. Loose R Z LZ ghosts)) En.kept.1.0 (λ κs x f. tt), tt),
    ) #self fn
    (code.unfolded 𝓤 H 𝓜 𝓡 wired) (λ z are.
    let κs = z.0.0 in
    let qs = z.0.1 in
    let vss = z.0.4 in
    let rb = z.0.3.0.ref_ptr.0 in
    let ro = z.0.3.0.ref_ptr.1 in
    let old = z.0.3.0.now in
    let v = z.0.3.1.0 in
    let Post : Val → SProp 𝓤 = (walk_of 𝓛 En hs c).post z in
    let Run : List Val → SProp 𝓤 = λ ws. WpFn 𝓤 H 𝓣.C 𝓣.Λ fn ws Post in
    qed 𝓛 (((‵ (flft κs.0 qs.0) ⊛ ‵ ftrue) ⊛ ‵ (owns
    (types_at En.signature.params z.0.0) z.0.3 z.0.4)) ∷ raw (fact 𝓤 (old.value ≡ None)) ∷ []) ∵
    move ! (1 ∷ []) $ heard ! (old.value ≡ None)
    (λ empty. split ! $ split ! $ move ! (2 ∷ []) $ fsplit ! $ move ! (1 ∷ []) $ fsplit ! $
    loose_out R Z LZ ghosts ! v z.0.4.1.0 (λ b o h e ws fits. let w : Val = both (vptr b o) h in
    move ! (3 ∷ []) $ fsplit3 ! $ feq_l ! (λ e₀. keep ! (0 ∷ 1 ∷ 5 ∷ 2 ∷ []) $
    -- [two parts of the handle; the token; the box]
    let us : List Val = vptr rb ro ∷ w ∷ [] in
    suffices ! (Run us) (subst (λ (vs : List Val). ent 𝓤 (Run us) (Run vs))
    (sym (λ i. e₀ i ++ (ws i ++ []))) (id⊢ 𝓤 (Run us))) $
    enter ! 𝓣.C 𝓣.Λ fn us Post $ alloc_all !
    (λ l. pass_all ! refl ((tt, tt), (loose_good R Z LZ ghosts b o h fits, tt)) $
    opens ! tt Hd rb ro (λ ts. move ! (1 ∷ []) $ handle_open ! v.alloc old.at old.value ts
    (λ is null. let Cell : List Val
    → _ = λ (xs : List Val). ‵ (cell_at full_share Hd.mir xs rb ro) in
    rewrite ! 0 Cell null refl $
    sets ! (of_opd ! (get_in ! (fld ! refl (stop !)) (sub ! 0 refl (whole !)))) refl (tt, tt) $
    assigns ! (of_opd ! (get ! refl)) (through ! refl (fld ! refl (stop !)))
    (store_in ! 0 (sub ! 0 refl (whole !)) (tt, tt)) $
    sets ! (of_opd ! (unit_lit !)) refl (tt, tt) $
    move ! (4 ∷ []) $ handle_in_some ! v.alloc (block_ptr b o) v.value $ move ! (1 ∷ []) $
    let new : Hd.Denot = record { at = block_ptr b o; value = Some v.value } in
    closes ! tt Hd new (word (block_ptr b o) ∷ []) rb ro $
    feq_i ! (List Val) vss.0 (vptr rb ro ∷ []) e₀ $ fjoin3 ! $ nothing ! $ nothing ! $ fjoin ! $
    move ! (1 ∷ 0 ∷ []) $ fjoin ! $ nothing ! $ move ! (2 ∷ 0 ∷ []) $ join ! $
    use0 𝓛 (raw (fact 𝓤 (Some v.value ≡ Some v.value))) (fact_i 𝓤 (Some v.value ≡ Some v.value)
    (emp 𝓤) refl) $ feq_i ! (List Val) (vunit ∷ []) (vunit ∷ []) refl $
    returns ! (look_at ! 0 refl) $ free_all ! refl $ keep ! (2 ∷ 3 ∷ 0 ∷ 1 ∷ []) $ by !
    (leaves 𝓛 En hs c z vunit tt (new, (tt, tt)) (tt, (tt, tt))))
    (λ b' o' x is null test. absurd (cc))))))))
