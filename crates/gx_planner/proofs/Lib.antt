pub mod PlanLaws
