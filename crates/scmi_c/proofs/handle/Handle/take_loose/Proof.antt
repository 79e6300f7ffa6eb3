-- `take_loose` reads the pointer, and where it is not null leaves null and has the box.
use Rattle.std.proofs.Common.{◌≡◌, List, [], ◌∷◌, ◌++◌, refl, sym, subst, lit<}
use mir.Syntax.{impl, tnil, dnil}
use mir.Val.{Val, vptr, vcons, vnil}
use base.Fml.{ftrue, flft}
use base.Fraction.{full_share}
use base.Logic.{SProp, ent, emp, id⊢}
use prog.Wp.{WpFn}
use contract.Monad.{fact, fact_i}
use contract.Running.{tables}
use types.Kit.{‵, raw, ◌⊛◌, at_ret, ◌$◌, ◌∵◌, !, qed, by, move, keep, use0, use1, split, join, rewrite, fsplit, fsplit3, fjoin, fjoin3, fpack, feq_i, feq_l, suffices}
use types.Part.{agg, sub, whole, look_in, store_in}
use types.Run.{stop, fld, load, lit, of_opd, bin, no_more, and_then, assigns, first, branches, exec, returns, enter}
use types.ByLocal.{alloc_all, pass_all, free_all, look_at, get, through, sets, sets_last, env}
use types.Match.{live}
use denote.Memory.{cell_at}
use denote.RattleType.{RattleType, owns}
use denote.Param.{layout}
use denote.RawPtr.{block_ptr, null_ptr, tests_null}
use denote.Signature.{types_at, type_at, plain}
use denote.Steps.{nothing, opens, closes}
use denote.Triple.Walked.{Stays, stay_dropped, stay_ref, walk_of, Goes-ref}
use Rattle.core.proofs.alloc.Calls.{Al, Goes-blank, handle_tells}
use Rattle.core.proofs.alloc.Shapes.{after}
use Rattle.core.proofs.cell.Inside.{Good}
use Rattle.core.proofs.option.Made.{Some-of, none_of}
use Rattle.std.specs.Prelude.{Option, Some, None, MatchOption}
use Rattle.std.specs.contracts.alloc.Global as heap
use Rattle.std.proofs.alloc.Global.TheLaws as heap_laws
use Rattle.std.specs.contracts.impls.GlobalAllocator.TheImpl.{ghosts}
use Rattle.std.proofs.raw_atomic.Walks.{proved_at, leaves}
use Rattle.std_alloc.proofs.ResultValues.{and_tt}
use Rattle.scmi_c.proofs.LooseValues.{both, Loose, loose_good, loose_in}
use Rattle.scmi_c.proofs.HandleValues.{word, handle_in, handle_open}
use Rattle.scmi_c.specs.contracts.desk.Desk as platform
use Rattle.scmi_c.specs.contracts.handle.Handle as handle
use Rattle.scmi_c.specs.contracts.handle.Handle.take_loose.{ended, clauses}
use Rattle.scmi_c.specs.contracts.handle.Handle.take_loose.Key.{name as #self}
use Rattle.scmi_c.proofs.handle.Handle.take_loose.Statement.{statement}
use Rattle.scmi_c.proofs.handle.Handle.take_loose.Code as code

pub take_loose_spec : {M : Type 1} → statement M
take_loose_spec 𝓤 𝓛 𝓜 𝓡 wired =
    let H = 𝓛.H in
    let 𝓣 = tables 𝓤 H 𝓜 𝓡 𝓡.env in
    let En = ended in
    let c = clauses 𝓛 𝓜.mem 𝓡.returns in
    let fn = code.function in
    let R : RattleType = platform.the_row in
    let Hd : RattleType = handle.the_row in
    let Z : RattleType = heap.the_row in
    let LZ = heap_laws.the_row_laws in
    let al : Al = record {
      row = Z;
      laws = LZ;
      g = ghosts;
      d = impl [] tnil dnil;
      drops = impl [] tnil dnil;
    } in
    let Lr : RattleType = Loose R Z LZ ghosts in
    let hs : Stays En.signature.params En.kept =
    (stay_ref (0 ∷ []) tt (plain (λ _. Hd)), (stay_dropped (plain (λ _. Z)) En.kept.1.0, tt)) in
    proved_at 𝓛 En hs c 𝓜 𝓡 (
      Goes-ref 𝓛 1 0 tt (plain (λ _. Hd)),
      (
        Goes-blank 𝓛 1 (plain (λ _. Z))
            En.kept.1.0 (λ κs x f. tt),
        tt,
      ),
    ) #self fn (code.unfolded 𝓤 H 𝓜 𝓡 wired) (λ z are.
    let κs = z.0.0 in
    let qs = z.0.1 in
    let vss = z.0.4 in
    let rb = z.0.3.0.ref_ptr.0 in
    let ro = z.0.3.0.ref_ptr.1 in
    let old = z.0.3.0.now in
    let a = z.0.3.1.0 in
    let Post : Val → SProp 𝓤 = (walk_of 𝓛 En hs c).post z in
    let Run : List Val → SProp 𝓤 = λ ws. WpFn 𝓤 H 𝓣.C 𝓣.Λ fn ws Post in
    let Out : RattleType = type_at En.signature.result z.0.0 in
    let Cell = λ (xs : List Val). ‵ (cell_at full_share Hd.mir xs rb ro) in
    let new : Hd.Denot = record { at = null_ptr; value = None } in
    let Given : Option Lr.Denot → Type 0 = λ r. (MatchOption r (old.value ≡ None)
    (λ (loose : Lr.Denot). old.value ≡ Some loose.value)) × (new.value ≡ None) in
    qed 𝓛 (((‵ (flft κs.0 qs.0) ⊛ ‵ ftrue) ⊛ ‵ (owns (types_at En.signature.params z.0.0) z.0.3
    z.0.4)) ∷ raw ((c z.0.0 z.0.3).requires z.1) ∷ []) ∵
    split ! $ keep ! (0 ∷ 1 ∷ []) $ split ! $ move ! (2 ∷ []) $ fsplit ! $ move !
    (1 ∷ []) $ fsplit ! $ handle_tells al ! a z.0.4.1.0 (λ h eh fits.
    move ! (2 ∷ []) $ fsplit3 ! $ feq_l ! (λ e₀. keep ! (0 ∷ 1 ∷ 4 ∷ 2 ∷ []) $
    -- [two parts of the handle; the token; the allocator]
    let us : List Val = vptr rb ro ∷ h ∷ [] in
    suffices ! (Run us) (subst (λ (vs : List Val). ent 𝓤 (Run us) (Run vs))
    (sym (λ i. e₀ i ++ (eh i ++ []))) (id⊢ 𝓤 (Run us))) $
    enter ! 𝓣.C 𝓣.Λ fn us Post $ alloc_all !
    (λ l. pass_all ! refl ((tt, tt), (fits, tt)) $ let Ev = env fn.locals l in
    opens ! tt Hd rb ro (λ ts. move ! (1 ∷ []) $ handle_open ! a old.at old.value ts
    (λ is null. rewrite ! 0 Cell null refl $
    sets ! (of_opd ! (load ! (through ! refl (fld ! refl (stop !)))
    (look_in ! 0 (sub ! 0 refl (whole !))))) refl (tt, record { fits = lit< tt }) $
    sets ! (bin ! (get ! refl) (lit ! tt) tt) refl (tt, tt) $ first ! $ branches ! (get ! refl)
    (λ _. sets_last ! (agg ! (and_then ! (lit ! tt) (no_more !))) refl
    (tt, (record { fits = lit< tt }, tt)) $ exec ! 𝓣.C 𝓣.Λ Ev (after 3 fn.body) (at_ret Ev Post)
    $ sets ! (of_opd ! (get ! refl)) refl (tt, (record { fits = lit< tt }, tt)) $
    nothing ! $ fpack ! (null_ptr ≡ null_ptr) (λ _. ftrue) refl $ handle_in ! null_ptr None $ move !
    (1 ∷ []) $ closes ! tt Hd new (word null_ptr ∷ []) rb ro $
    feq_i ! (List Val) vss.0 (vptr rb ro ∷ []) e₀ $ fjoin3 ! $ nothing ! $ nothing ! $ fjoin ! $
    move ! (1 ∷ 0 ∷ []) $ fjoin ! $ nothing ! $ move ! (2 ∷ 0 ∷ []) $ join ! $
    use0 𝓛 (raw (fact 𝓤 (Given None))) (fact_i 𝓤 (Given None) (emp 𝓤) (is, refl)) $ use0 𝓛
    (‵ (Out.own_val None (live 0 vnil ∷ []))) (none_of 𝓛 Lr) $
    returns ! (look_at ! 0 refl) $ free_all ! refl $ keep ! (2 ∷ 3 ∷ 0 ∷ 1 ∷ []) $ by !
    (leaves 𝓛 En hs c z (live 0 vnil) None (new, (tt, tt)) (tt, (tt, tt))))
    (λ wrong. absurd wrong))
    (λ b o x is at test. let made : Val = both (vptr b o) h in
    let typed = loose_good R Z LZ ghosts b o h fits in
    let v₁ : Val = live 1 (vcons made vnil) in
    let d : Lr.Denot = record { at = block_ptr b o; alloc = a; value = x } in
    let good : Good (layout Out) v₁ =
    (and_tt _ typed.0, (record { fits = lit< tt }, (typed.1, tt))) in
    rewrite ! 1 Cell at refl $
    sets ! (of_opd ! (load ! (through ! refl (fld ! refl (stop !)))
    (look_in ! 1 (sub ! 0 refl (whole !))))) refl (tt, tt) $
    sets ! (bin ! (get ! refl) (lit ! tt) (tests_null (block_ptr b o) test)) refl
    (tt, tt) $ first ! $ branches ! (get ! refl) (λ wrong. absurd wrong) (λ _.
    assigns ! (of_opd ! (lit ! tt)) (through ! refl (fld ! refl (stop !)))
    (store_in ! 1 (sub ! 0 refl (whole !)) (tt, record { fits = lit< tt })) $
    sets ! (agg ! (and_then ! (get ! refl) (and_then ! (get ! refl) (no_more !))))
    refl typed $ sets_last !
    (agg ! (and_then ! (lit ! tt) (and_then ! (get ! refl) (no_more !)))) refl good $
    exec ! 𝓣.C 𝓣.Λ Ev (after 3 fn.body) (at_ret Ev Post) $ sets !
    (of_opd ! (get ! refl)) refl good $
    -- [the box; the cell; the open borrow, in three entries; the allocator]
    move ! (0 ∷ 5 ∷ []) $ loose_in R Z LZ ghosts ! b o h a x $ use1 𝓛
    (‵ (Out.own_val (Some d) (v₁ ∷ []))) (Some-of 𝓛 Lr d made) $
    use0 𝓛 (raw (fact 𝓤 (Given (Some d)))) (fact_i 𝓤 (Given (Some d)) (emp 𝓤) (is, refl)) $ move !
    (2 ∷ 3 ∷ 4 ∷ 5 ∷ []) $
    nothing ! $ fpack ! (null_ptr ≡ null_ptr) (λ _. ftrue) refl $ handle_in ! null_ptr None $ move !
    (1 ∷ []) $ closes ! tt Hd new (word null_ptr ∷ []) rb ro $
    feq_i ! (List Val) vss.0 (vptr rb ro ∷ []) e₀ $ fjoin3 ! $ nothing ! $ nothing ! $ fjoin ! $
    move ! (1 ∷ 0 ∷ []) $ fjoin ! $ nothing ! $ move ! (2 ∷ 0 ∷ []) $ join ! $
    returns ! (look_at ! 0 refl) $ free_all ! refl $ keep ! (0 ∷ 1 ∷ 3 ∷ 2 ∷ []) $ by !
    (leaves 𝓛 En hs c z v₁ (Some d) (new, (tt, tt)) (tt, (tt, tt))))))))))
