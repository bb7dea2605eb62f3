-- `Box<View>` as a call of a generic function names it: the view's row and the heap's at the layouts that the call passes. Assumes nothing.
use mathlib.Core.List.{[], ◌∷◌}
use mathlib.Core.Path.{refl}
use mir.Raw.{raw as bare}
use mir.Syntax.{Ty, Dict, tcons, tnil, impl, dnil}
use denote.Exit.{no}
use denote.RattleType.{RattleType}
use denote.Param.{arg, layout}
use denote.Param.Laws.{Laws, arg_laws}
use Rattle.std.specs.contracts.alloc.Global as global
use Rattle.std.proofs.alloc.Global.TheLaws as global_laws
use Rattle.std.specs.contracts.impls.GlobalAllocator.TheImpl.{ghosts, dict}
use Rattle.client_view.specs.contracts.view.View as view
use Rattle.client_view.proofs.view.View.TheLaws as view_laws
use Rattle.std_alloc.proofs.BoxSteps.Form as box

abbrev heap_ty : Ty
heap_ty = bare (layout global.the_row)

abbrev view_ty : Ty
view_ty = bare (layout view.the_row)

abbrev pub V : RattleType
V = arg view_ty no view.the_row

abbrev pub V-laws : Laws V
V-laws = arg_laws view_ty no view.the_row view_laws.the_row_laws refl

abbrev pub A : RattleType
A = arg heap_ty no global.the_row

abbrev pub A-laws : Laws A
A-laws = arg_laws heap_ty no global.the_row global_laws.the_row_laws refl

abbrev pub A-drop : Dict
A-drop = impl ("lobby_c::Destruct++none::drop" ∷ []) (tcons (layout A) tnil) dnil

abbrev pub V-drop : Dict
V-drop = impl ("client_view::view::View::drop" ∷ []) tnil dnil

abbrev pub E : box.Bx
E = record { row = V; laws = V-laws; al = record { row = A; laws = A-laws; g = ghosts; d = dict; drops = A-drop } }
